use Rattle.std.proofs.Common.{map, drop}
use Rattle.hk_arena.specs.Diagrams.{rows_of}
use Rattle.hk_table.specs.declared.items.TraceItem.TheVariants as item
use Rattle.hk_prop.specs.Telling.{Telling}
use Rattle.hk_prop.specs.Told.{layer_items}
use Rattle.hk_prop.proofs.telling.tell_layer.Given as goal

-- what is left to be told are the rows from this one on
abbrev pub invariant-each : goal.invariant-each
invariant-each g l = record {
  telling : Telling (g.T.Trace.view l.fn.trace) (layer_items (rows_of l.diagram.table l.layer)) (g.T.Trace.view l.trace) (map (λ row. item.Row row) (drop l.at (rows_of l.diagram.table l.layer)));
  whole : g.T.Trace.whole l.trace;
}
