use Rattle.std.proofs.Common.{◌≡◌, ℕ, ◌<◌, get_or}
use Rattle.hk_prop.proofs.counting.settled.Given as goal

-- no set before this one is empty
abbrev pub invariant-sets : goal.invariant-sets
invariant-sets l = (j : ℕ) → j < l.at → get_or l.sets j 0 ≡ 0 → ⊥
