use Rattle.std.proofs.Common.{◌≡◌, ℕ, length, slice_index, take}
use Rattle.std.specs.List.{sum_by}
use Rattle.hk_text.specs.Sets.{members}
use Rattle.hk_group.proofs.widths.group_values.Given as goal

-- the values of the variables so far
abbrev pub invariant-loop-variable : goal.invariant-loop-variable
invariant-loop-variable l = l.sum ≡ sum_by (λ (variable : ℕ). length (members (slice_index l.domains variable))) (take l.variable-index l.group.vars)
