use Rattle.std.proofs.Common.{◌≡◌, ℕ, ◌<◌, length, slice_index_or}
use Rattle.hk_table.specs.declared.entries.Entry.TheVariants.{Gone, Live}
use Rattle.hk_arena.specs.Diagrams.{row_in, values_of}
use Rattle.hk_arena.specs.declared.ids.RowId.{RowId}
use Rattle.hk_rows.proofs.leading.layer_leads.Given as goal

-- the rows so far lead
abbrev pub invariant-loop-at : goal.invariant-loop-at
invariant-loop-at l = (row : RowId) (at to : ℕ) → row.layer ≡ l.layer → row.at < l.at → at < length (values_of l.diagram.shape l.layer) → slice_index_or (row_in l.diagram.table row).entries at Gone ≡ Live to → to < l.next
