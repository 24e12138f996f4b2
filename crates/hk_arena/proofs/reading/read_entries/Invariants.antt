use Rattle.std.proofs.Common.{◌≡◌, ◌++◌, drop}
use Rattle.hk_table.specs.Tables.{flat_entries}
use Rattle.hk_arena.specs.Diagrams.{rows_of}
use Rattle.hk_arena.specs.Cells.{table_of}
use Rattle.hk_arena.proofs.reading.read_entries.Given as goal

-- the entries of the rows that are left come after those that are there
abbrev pub invariant-loop-at : goal.invariant-loop-at
invariant-loop-at l = flat_entries (rows_of (table_of l.layout l.store.content) l.layer) ≡ l.to.items ++ flat_entries (drop l.at (rows_of (table_of l.layout l.store.content) l.layer))
