use Rattle.std.proofs.Common.{◌+◌, ◌*◌, max}
use Rattle.hk_spec.specs.declared.expressions.NumExpr.{size-NumExpr}
use Rattle.hk_spec.proofs.copies.+copy_num.Given as goal

abbrev pub decreases-copy_num : goal.decreases-copy_num
decreases-copy_num l = 3 * goal.size-copy_num l

abbrev pub decreases-num_box : goal.decreases-num_box
decreases-num_box l = 3 * goal.size-num_box l + 1

abbrev pub decreases-num_boxes : goal.decreases-num_boxes
decreases-num_boxes l = 3 * max (size-NumExpr l.a.now) (size-NumExpr l.b.now) + 2
