use Rattle.hk_kinds.specs.Shapes.{HasShape}
use Rattle.hk_revised.proofs.lines.push_layer.Given as goal

-- the states that are lent keep their shapes
abbrev pub invariant-loop-at : goal.invariant-loop-at
invariant-loop-at l = HasShape l.diagram.shape.down l.down × HasShape l.diagram.shape.up l.up
