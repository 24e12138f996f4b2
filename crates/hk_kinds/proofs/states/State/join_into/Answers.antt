use Rattle.std.proofs.Common.{◌≡◌, length, ap, sym, ◌∙◌, subst}
use Rattle.hk_kinds.specs.Joins.{state_join}
use Rattle.hk_kinds.specs.Shapes.{HasShape}
use Rattle.hk_kinds.proofs.StateLaws.{length-HasShape, HasShape-join, refill_all}
use Rattle.hk_kinds.proofs.states.State.join_into.Goals as goal

pub join_all-requires-clause-mine : goal.join_all-requires-clause-mine
join_all-requires-clause-mine c = ap length (c.as_mut_slice.ensures.value ∙ c.self.view_is) ∙ (length-HasShape c.requires.mine ∙ sym (ap length c.as_slice.ensures))

pub join_all-requires-clause-theirs : goal.join_all-requires-clause-theirs
join_all-requires-clause-theirs c = ap length c.as_slice-2.ensures ∙ (length-HasShape c.requires.theirs ∙ sym (ap length c.as_slice.ensures))

pub returns-clause-shape : goal.returns-clause-shape
returns-clause-shape c =
    let joined : c.join_all.new.mine ≡ state_join c.args.shape.now c.args.self.now c.args.other.now = cc (c.self.view_is, c.as_mut_slice.ensures.value) in
    let whole = refill_all c.self.inside.properties.items c.join_all.new.mine (c.join_all.auto.mine ∙ ap length c.as_mut_slice.ensures.value) in
    subst (HasShape c.args.shape.now) (sym (whole ∙ joined)) (HasShape-join _ _ _ c.requires.mine c.requires.theirs)
