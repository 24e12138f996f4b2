use Rattle.std.proofs.Common.{◌≡◌, take}
use Rattle.hk_table.proofs.tables.Table.copy.Given as goal

-- the layers up to here are copied
abbrev pub invariant-loop-layer : goal.invariant-loop-layer
invariant-loop-layer l = l.layers ≡ take l.layer-index l.layer-items
