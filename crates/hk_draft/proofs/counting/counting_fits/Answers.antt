use Rattle.std.proofs.Common.{◌<◌, ◌≤◌, length, true≢false, sym, ◌∙◌, subst, arith}
use Rattle.std.proofs.lemmas.Bool.Decides.{nat_tests}
use Rattle.hk_draft.specs.Drafts.{HasGroup}
use Rattle.hk_draft.proofs.CountTests.{counting_fits, set_fits}
use Rattle.hk_draft.proofs.SmallSets.{AreSmallValues}
use Rattle.hk_draft.proofs.counting.counting_fits.Goals as goal

pub returns-then-not-is_small_set-clause-large : goal.returns-then-not-is_small_set-clause-large
returns-then-not-is_small_set-clause-large c = λ _ fits. true≢false (sym (c.is_small_set.ensures.1 (subst AreSmallValues (sym c.as_slice.ensures) (set_fits c.args.counting.now c.args.draft.now fits))) ∙ c.if-not-is_small_set.true)

pub returns-clause-fits : goal.returns-clause-fits
returns-clause-fits c = λ fits.
    let room : (length c.args.draft.now.constraints < 64) × HasGroup c.args.draft.now = c.has_room.ensures.0 c.if-not-has_room.false in
    let set : AreSmallValues c.args.counting.now.set = subst AreSmallValues c.as_slice.ensures (c.is_small_set.ensures.0 c.if-not-is_small_set.false) in
    let most : c.args.counting.now.most ≤ 1000000000000 = grind (arith, nat_tests) in
    counting_fits c.args.counting.now c.args.draft.now room.0 room.1 set (omega (arith, c.if-counting-gt-TIMES.false)) most
