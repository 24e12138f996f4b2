use Rattle.std.proofs.Common.{◌+◌, ◌*◌, max}
use Rattle.hk_spec.specs.declared.expressions.SetExpr.{size-SetExpr}
use Rattle.hk_spec.proofs.copies.+copy_set.Given as goal

abbrev pub decreases-copy_set : goal.decreases-copy_set
decreases-copy_set l = 3 * goal.size-copy_set l

abbrev pub decreases-set_box : goal.decreases-set_box
decreases-set_box l = 3 * goal.size-set_box l + 1

abbrev pub decreases-set_boxes : goal.decreases-set_boxes
decreases-set_boxes l = 3 * max (size-SetExpr l.a.now) (size-SetExpr l.b.now) + 2
