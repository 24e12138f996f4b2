use Rattle.hk_kinds.specs.Shapes.{HasShape}
use Rattle.hk_rows.proofs.readings.is_table_read.Given as goal

-- the states that are lent keep their shapes
abbrev pub invariant-loop-layer : goal.invariant-loop-layer
invariant-loop-layer l = HasShape l.diagram.shape.down l.down × HasShape l.diagram.shape.up l.up
