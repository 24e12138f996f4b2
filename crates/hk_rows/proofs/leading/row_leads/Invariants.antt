use Rattle.std.proofs.Common.{◌≡◌, ℕ, ◌<◌, slice_index_or}
use Rattle.hk_table.specs.declared.entries.Entry.TheVariants.{Gone, Live}
use Rattle.hk_arena.specs.Diagrams.{row_in}
use Rattle.hk_rows.proofs.leading.row_leads.Given as goal

-- the entries so far lead
abbrev pub invariant-loop-at : goal.invariant-loop-at
invariant-loop-at l = (at to : ℕ) → at < l.at → slice_index_or (row_in l.diagram.table l.row).entries at Gone ≡ Live to → to < l.next
