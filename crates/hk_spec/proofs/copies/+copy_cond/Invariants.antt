use Rattle.std.proofs.Common.{◌+◌, ◌*◌, max}
use Rattle.hk_spec.specs.declared.expressions.Cond.{size-Cond}
use Rattle.hk_spec.proofs.copies.+copy_cond.Given as goal

abbrev pub decreases-copy_cond : goal.decreases-copy_cond
decreases-copy_cond l = 3 * goal.size-copy_cond l

abbrev pub decreases-cond_box : goal.decreases-cond_box
decreases-cond_box l = 3 * goal.size-cond_box l + 1

abbrev pub decreases-cond_boxes : goal.decreases-cond_boxes
decreases-cond_boxes l = 3 * max (size-Cond l.p.now) (size-Cond l.q.now) + 2
