use Rattle.hk_table.specs.inside.Reaching.{LayerLeads}
use Rattle.hk_table.specs.TakenIn.{TakesIn}
use Rattle.hk_arena.specs.Diagrams.{rows_of, values_of}
use Rattle.hk_arena.specs.Cells.{table_of}
use Rattle.hk_arena.proofs.support.layer_support.Given as goal

-- the steps of the reached rows before this one are taken in
abbrev pub invariant-loop-at : goal.invariant-loop-at
invariant-loop-at l = TakesIn (LayerLeads (values_of l.fn.layout.shape l.fn.layer) (rows_of (table_of l.fn.layout l.fn.store.content) l.fn.layer) l.fn.reached l.at) 0 0 l.found.values l.found.rows
