use Rattle.std.proofs.Common.{◌≡◌, ◌++◌, drop}
use Rattle.hk_arena.specs.Diagrams.{row_in}
use Rattle.hk_arena.specs.Cells.{table_of}
use Rattle.hk_arena.proofs.reading.push_entries.Given as goal

-- the entries that are left come after those that are there
abbrev pub invariant-loop-at : goal.invariant-loop-at
invariant-loop-at l = l.initial.to.items ++ (row_in (table_of l.layout l.store.content) l.fn.row).entries ≡ l.to.items ++ drop l.at (row_in (table_of l.layout l.store.content) l.fn.row).entries
