use Rattle.std.proofs.Common.{◌↔◌, ℕ, take}
use Rattle.std.specs.List.{Contains}
use Rattle.hk_base.specs.Sets.{Has}
use Rattle.hk_arena.proofs.from.row_set.Given as goal

-- the set has the rows so far
abbrev pub invariant-loop-at : goal.invariant-loop-at
invariant-loop-at l = (row : ℕ) → Has l.set row ↔ Contains (take l.at l.rows) row
