use Rattle.std.proofs.Common.{◌+◌, ◌≤◌}
use Rattle.hk_arena.proofs.RowWrites.{entries_spans}
use Rattle.hk_arena.proofs.WholeRows.{HoldEntries}
use Rattle.hk_arena.specs.Forms.{words_at}
use Rattle.hk_arena.specs.inside.Writes.{IsWritten}
use Rattle.hk_arena.proofs.whole_rows.write_entries.Given as goal

-- the words up to here hold the entries, and no others were written
abbrev pub invariant-loop-at : goal.invariant-loop-at
invariant-loop-at g l = record {
  held : HoldEntries (words_at l.layout l.fn.row.layer l.fn.row.at + 1) l.entries l.at l.store.content.words;
  written : IsWritten (entries_spans l.layout l.fn.row.layer l.fn.row.at) l.at l.initial.store l.store;
  ticks : l.steps ≤ l.initial.steps + l.at;
}
