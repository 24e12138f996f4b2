use Rattle.std.proofs.Common.{ℕ, ◌<◌, ◌+◌, [], length, slice_index, slice_index_or, All}
use Rattle.hk_table.specs.Supporting.{RowLeads}
use Rattle.hk_text.specs.Sets.{members}
use Rattle.hk_rows.proofs.supportable.layers_lead.Given as goal

-- the rows of the layers so far lead
abbrev pub invariant-loop-level : goal.invariant-loop-level
invariant-loop-level l = (level : ℕ) → level < l.level → All (RowLeads (members (slice_index l.sets level)) (length (slice_index_or l.layers (level + 1) []))) (slice_index_or l.layers level [])
