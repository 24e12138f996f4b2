use Rattle.std.proofs.Common.{◌≡◌, length, drop}
use Rattle.hk_table.proofs.Steps.{SameSteps}
use Rattle.hk_table.specs.inside.Reaching.{EntryLeads}
use Rattle.hk_table.proofs.support.row_support.Given as goal
use Rattle.hk_text.specs.Sets.{members}

-- the values that are left are those of the entries that are left, whose steps are still to be taken in
abbrev pub invariant-loop-at : goal.invariant-loop-at
invariant-loop-at l = record {
  long : length (drop l.at l.entries) ≡ length (members l.left);
  steps : SameSteps (EntryLeads (members l.domain) l.entries) (EntryLeads (members l.left) (drop l.at l.entries)) l.initial.found.values l.initial.found.rows l.found.values l.found.rows;
}
