use Rattle.std.proofs.Common.{◌≡◌, ℕ, ◌+◌, ◌<◌, length, slice_index_or}
use Rattle.hk_table.specs.declared.entries.Entry.TheVariants.{Gone, Live}
use Rattle.hk_arena.specs.Diagrams.{IsEntry, row_in, rows_of}
use Rattle.hk_arena.specs.declared.ids.EntryId.{EntryId}
use Rattle.hk_rows.proofs.leading.layers_lead.Given as goal

-- the layers so far lead
abbrev pub invariant-loop-layer : goal.invariant-loop-layer
invariant-loop-layer l = (id : EntryId) (next : ℕ) → IsEntry l.diagram.shape l.diagram.table id → id.row.layer < l.layer → slice_index_or (row_in l.diagram.table id.row).entries id.at Gone ≡ Live next → next < length (rows_of l.diagram.table (id.row.layer + 1))
