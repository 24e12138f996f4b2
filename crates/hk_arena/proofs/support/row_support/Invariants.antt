use Rattle.std.proofs.Common.{◌≡◌, length, drop}
use Rattle.hk_table.proofs.Steps.{SameSteps}
use Rattle.hk_table.specs.inside.Reaching.{EntryLeads}
use Rattle.hk_text.specs.Sets.{members}
use Rattle.hk_arena.specs.Diagrams.{row_in, values_of}
use Rattle.hk_arena.specs.Cells.{table_of}
use Rattle.hk_arena.proofs.support.row_support.Given as goal

-- the values that are left are those of the entries that are left, whose steps are still to be taken in
abbrev pub invariant-loop-at : goal.invariant-loop-at
invariant-loop-at l = record {
  long : length (drop l.at (row_in (table_of l.fn.layout l.fn.store.content) l.fn.row).entries) ≡ length (members l.left);
  steps : SameSteps (EntryLeads (values_of l.fn.layout.shape l.fn.row.layer) (row_in (table_of l.fn.layout l.fn.store.content) l.fn.row).entries) (EntryLeads (members l.left) (drop l.at (row_in (table_of l.fn.layout l.fn.store.content) l.fn.row).entries)) l.fn.found.values l.fn.found.rows l.found.values l.found.rows;
}
