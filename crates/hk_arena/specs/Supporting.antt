-- Which diagrams can be asked what they support.
use Rattle.std.specs.Prelude.{◌≡◌, ℕ, ◌+◌, ◌<◌, List, length, slice_index_or}
use Rattle.hk_table.specs.Tables.{PlainRow, PlainShape}
use Rattle.hk_table.specs.declared.entries.Entry.TheVariants.{Gone, Live}
use Rattle.hk_arena.specs.Diagrams.{IsEntry, row_in, rows_of}
use Rattle.hk_arena.specs.declared.ids.EntryId.{EntryId}

-- each Live entry names a row of the next layer that is there
abbrev pub AreLiveThere : PlainShape → List (List PlainRow) → Type 0
AreLiveThere shape table = (id : EntryId) (next : ℕ) → IsEntry shape table id → slice_index_or (row_in table id.row).entries id.at Gone ≡ Live next → next < length (rows_of table (id.row.layer + 1))
