use Rattle.std.proofs.Common.{◌≡◌, ◌+◌, ℕ, List, length, slice_index, get_or, drop, arith, subst}
use Rattle.std.proofs.lemmas.List.{drop_more, length-map}
use Rattle.hk_group.specs.Solutions.{scope_values}
use Rattle.hk_group.proofs.Counts.{Counted, Counted-room}
use Rattle.hk_group.proofs.counting.counts_of.Goals as goal

pub overflow_add-counts : goal.overflow_add-counts
overflow_add-counts c =
    let value = slice_index c.args.values.now (get_or c.args.scope.now c.loop-variable.variable-index 0) in
    let whole = scope_values c.args.scope.now c.args.values.now in
    let here = subst (λ (left : List ℕ). Counted whole (scope_values left c.args.values.now) c.loop-variable.counts) (drop_more c.args.scope.now c.loop-variable.variable-index 0 c.loop-variable-test.true) c.loop-variable.invariant in
    let room = Counted-room whole (scope_values (drop (c.loop-variable.variable-index + 1) c.args.scope.now) c.args.values.now) c.loop-variable.counts value here
    (c.requires.small (get_or c.args.scope.now c.loop-variable.variable-index 0) 0 (c.requires.declared c.loop-variable.variable-index 0 c.loop-variable-test.true)) in
    let long : length whole ≡ length c.args.scope.now = length-map c.args.scope.now (λ variable. slice_index c.args.values.now variable) in
    let few = c.requires.few in
    omega arith
