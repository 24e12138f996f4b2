use Rattle.std.proofs.Common.{◌+◌, ◌*◌, max}
use Rattle.hk_spec.specs.declared.expressions.SetExpr.{size-SetExpr}
use Rattle.hk_print.proofs.sets.+print_set.Given as goal

abbrev pub decreases-print_set : goal.decreases-print_set
decreases-print_set l = 3 * goal.size-print_set l

abbrev pub decreases-print_set_after : goal.decreases-print_set_after
decreases-print_set_after l = 3 * goal.size-print_set_after l + 1

abbrev pub decreases-print_sets : goal.decreases-print_sets
decreases-print_sets l = 3 * max (size-SetExpr l.a.now) (size-SetExpr l.b.now) + 2
