use Rattle.std.proofs.Common.{◌≡◌, length, ap, sym, ◌∙◌}
use Rattle.hk_kinds.specs.Covers.{state_covers}
use Rattle.hk_kinds.proofs.StateLaws.{length-HasShape, StateCovers-tested, StateCovers-join_tested}
use Rattle.hk_kinds.proofs.states.State.covers.Goals as goal

pub covers_all-requires-clause-mine : goal.covers_all-requires-clause-mine
covers_all-requires-clause-mine c = ap length c.as_slice-2.ensures ∙ (length-HasShape c.requires.mine ∙ sym (ap length c.as_slice.ensures))

pub covers_all-requires-clause-theirs : goal.covers_all-requires-clause-theirs
covers_all-requires-clause-theirs c = ap length c.as_slice-3.ensures ∙ (length-HasShape c.requires.theirs ∙ sym (ap length c.as_slice.ensures))

pub returns-clause-covers : goal.returns-clause-covers
returns-clause-covers c =
    let tested : c.covers_all.result ≡ state_covers c.args.shape.now c.args.self.now c.args.other.now = cc in
    StateCovers-tested _ _ _ _ tested

pub returns-clause-joins : goal.returns-clause-joins
returns-clause-joins c =
    let tested : c.covers_all.result ≡ state_covers c.args.shape.now c.args.self.now c.args.other.now = cc in
    StateCovers-join_tested _ _ _ _ c.requires.mine c.requires.theirs tested
