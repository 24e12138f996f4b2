use Rattle.hk_kinds.specs.Shapes.{HasShape}
use Rattle.hk_rows.proofs.filling.fill.Given as goal

-- the state keeps its shape
abbrev pub invariant-loop-at : goal.invariant-loop-at
invariant-loop-at l = HasShape l.kinds l.state
