use Rattle.std.proofs.Common.{◌≡◌}
use Rattle.hk_kinds.specs.Shapes.{HasShape}
use Rattle.hk_rows.proofs.changes.make_changes.Given as goal

-- the table alone is another one, and the states that are lent keep their shapes
abbrev pub invariant-loop-change : goal.invariant-loop-change
invariant-loop-change g l = (l.diagram ≡ record l.initial.diagram { table = l.diagram.table; numbers = l.diagram.numbers }) × (HasShape l.shape.down l.down × HasShape l.shape.up l.up)
