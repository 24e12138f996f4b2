use Rattle.std.proofs.Common.{◌+◌, ◌*◌, max}
use Rattle.hk_spec.specs.declared.expressions.Cond.{size-Cond}
use Rattle.hk_print.proofs.conditions.+print_cond.Given as goal

abbrev pub decreases-print_cond : goal.decreases-print_cond
decreases-print_cond l = 4 * goal.size-print_cond l

abbrev pub decreases-print_cond_after : goal.decreases-print_cond_after
decreases-print_cond_after l = 4 * goal.size-print_cond_after l + 1

abbrev pub decreases-print_cond_within : goal.decreases-print_cond_within
decreases-print_cond_within l = 4 * goal.size-print_cond_within l + 2

abbrev pub decreases-print_conds : goal.decreases-print_conds
decreases-print_conds l = 4 * max (size-Cond l.p.now) (size-Cond l.q.now) + 3
