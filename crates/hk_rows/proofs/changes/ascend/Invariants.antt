use Rattle.std.proofs.Common.{ℕ, ◌+◌, ◌<◌, length, slice_index}
use Rattle.hk_rows.proofs.changes.ascend.Given as goal

-- the numbers so far ascend
abbrev pub invariant-loop-at : goal.invariant-loop-at
invariant-loop-at l = (k : ℕ) → k < l.at → k + 1 < length l.numbers → slice_index l.numbers k < slice_index l.numbers (k + 1)
