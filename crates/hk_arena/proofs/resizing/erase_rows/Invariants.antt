use Rattle.std.proofs.Common.{◌+◌, ◌*◌, ◌≤◌, length}
use Rattle.hk_arena.proofs.RowErasing.{AreEmptyUpTo}
use Rattle.hk_arena.specs.Diagrams.{values_of}
use Rattle.hk_arena.specs.Cells.{table_of}
use Rattle.hk_arena.specs.inside.LayerWrites.{AreRowsWritten}
use Rattle.hk_arena.proofs.resizing.erase_rows.Given as goal

-- the rows up to here have Gone entries alone, and no others were written
abbrev pub invariant-loop-at : goal.invariant-loop-at
invariant-loop-at g l = record {
  empty : AreEmptyUpTo (table_of l.layout l.store.content) l.fn.layer l.fn.rows l.at;
  written : AreRowsWritten l.layout l.fn.layer l.fn.rows (l.at * length (values_of l.layout.shape l.fn.layer)) l.initial.store l.store;
  ticks : l.steps ≤ l.initial.steps + l.at * length (values_of l.layout.shape l.fn.layer);
  above : l.fn.rows ≤ l.at;
  few : l.at ≤ l.layout.width;
}
