use Rattle.std.proofs.Common.{◌≡◌, length}
use Rattle.hk_arena.specs.Diagrams.{values_of}
use Rattle.hk_sweep.proofs.RowsMade.{AreRowsWritten}
use Rattle.hk_sweep.specs.inside.Written.{rows_made}
use Rattle.hk_sweep.proofs.writing.write_rows.Given as goal

-- the rows up to here are written, and nothing but the table changed
abbrev pub invariant-loop-at : goal.invariant-loop-at
invariant-loop-at g l = record {
  written : AreRowsWritten l.layer l.at (rows_made (length (values_of l.fn.diagram.shape l.layer)) l.front.halves l.ups.ups l.entries) l.fn.diagram.table l.diagram.table;
  others : l.diagram ≡ record l.fn.diagram { table = l.diagram.table; numbers = l.diagram.numbers };
}
