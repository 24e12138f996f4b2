use Rattle.std.proofs.Common.{◌+◌, ◌*◌, max}
use Rattle.hk_spec.specs.declared.expressions.NumExpr.{size-NumExpr}
use Rattle.hk_print.proofs.numbers.+print_num.Given as goal

abbrev pub decreases-print_num : goal.decreases-print_num
decreases-print_num l = 4 * goal.size-print_num l

abbrev pub decreases-print_num_after : goal.decreases-print_num_after
decreases-print_num_after l = 4 * goal.size-print_num_after l + 1

abbrev pub decreases-print_num_within : goal.decreases-print_num_within
decreases-print_num_within l = 4 * goal.size-print_num_within l + 2

abbrev pub decreases-print_nums : goal.decreases-print_nums
decreases-print_nums l = 4 * max (size-NumExpr l.a.now) (size-NumExpr l.b.now) + 3
