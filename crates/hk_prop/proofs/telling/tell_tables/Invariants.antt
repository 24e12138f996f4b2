use Rattle.std.proofs.Common.{◌+◌, drop}
use Rattle.hk_prop.specs.Telling.{Telling}
use Rattle.hk_prop.specs.Told.{tables_items}
use Rattle.hk_prop.specs.Works.{tables_of}
use Rattle.hk_prop.proofs.telling.tell_tables.Given as goal

-- what is left to be told are the tables from this one on
abbrev pub invariant-tables : goal.invariant-tables
invariant-tables g l = record {
  telling : Telling (g.T.Trace.view l.fn.trace) (tables_items 1 (tables_of l.work)) (g.T.Trace.view l.trace) (tables_items (l.at + 1) (drop l.at (tables_of l.work)));
  whole : g.T.Trace.whole l.trace;
}
