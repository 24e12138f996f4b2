use Rattle.std.proofs.Common.{◌≡◌, ◌++◌, drop}
use Rattle.hk_group.specs.Groups.{up_shape_of}
use Rattle.hk_group.proofs.shapes.up_shape_of.Given as goal

-- the shape is what is pushed so far, and then that of the parts that are left
abbrev pub invariant-loop-part : goal.invariant-loop-part
invariant-loop-part l = up_shape_of l.parts ≡ l.shape ++ up_shape_of (drop l.part-index l.parts)
