use Rattle.std.proofs.Common.{◌≡◌}
use Rattle.hk_group.specs.Groups.{group_down_shape}
use Rattle.hk_layers.proofs.StepRows.{JoinedUpTo}
use Rattle.hk_layers.proofs.joining.join_steps.Given as goal

-- so many steps are joined into rows
abbrev pub invariant-loop-place : goal.invariant-loop-place
invariant-loop-place l = JoinedUpTo (group_down_shape l.spot.group) l.spot.width l.steps.rows l.place l.downs.rows × (l.downs.width ≡ l.initial.downs.width)
