use Rattle.std.proofs.Common.{◌∙◌, slice_index, get_or}
use Rattle.std.proofs.lemmas.Nat.Bits.{shr_and_one}
use Rattle.hk_group.specs.Solutions.{scope_values}
use Rattle.hk_group.proofs.Distinct.{distinct_is_fresh, scope_values-small, AreFresh-more}
use Rattle.hk_group.proofs.judging.are_different.Goals as goal

pub loop-variable-init : goal.loop-variable-init
loop-variable-init c = distinct_is_fresh (scope_values c.args.scope.now c.args.values.now) (scope_values-small c.args.scope.now c.args.values.now c.requires.declared c.requires.small)

pub loop-variable-preserved : goal.loop-variable-preserved
loop-variable-preserved c =
    AreFresh-more c.loop-variable.seen c.args.scope.now c.args.values.now c.loop-variable.variable-index c.loop-variable-test.true c.loop-variable.invariant
    (λ has. c.if-seen-value-eq1.false (shr_and_one c.loop-variable.seen (slice_index c.args.values.now (get_or c.args.scope.now c.loop-variable.variable-index 0)) ∙ has))
