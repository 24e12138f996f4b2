use Rattle.std.proofs.Common.{drop}
use Rattle.std.specs.List.{flat_map}
use Rattle.hk_prop.specs.Telling.{Telling}
use Rattle.hk_prop.specs.Told.{layer_items, table_items}
use Rattle.hk_prop.proofs.telling.tell_table.Given as goal

-- what is left to be told are the layers from this one on
abbrev pub invariant-layers : goal.invariant-layers
invariant-layers g l = record {
  telling : Telling (g.T.Trace.view l.fn.trace) (table_items l.number l.diagram.table) (g.T.Trace.view l.trace) (flat_map layer_items (drop l.layer l.diagram.table));
  whole : g.T.Trace.whole l.trace;
}
