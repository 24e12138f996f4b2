use Rattle.hk_table.proofs.Supported.{IsSupportUpTo}
use Rattle.hk_table.specs.Tables.{layer_values}
use Rattle.hk_arena.specs.Cells.{table_of}
use Rattle.hk_arena.proofs.support.support.Given as goal

-- the layers before this one are done, and the rows of this one that are reached are known
abbrev pub invariant-loop-layer : goal.invariant-loop-layer
invariant-loop-layer l = IsSupportUpTo (layer_values l.fn.layout.shape) (table_of l.fn.layout l.fn.store.content) l.out l.layer l.reached
