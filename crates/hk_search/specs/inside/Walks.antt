-- What a search has tried, and the best solution that it keeps.
use Rattle.std.specs.Prelude.{◌≡◌, ℕ, ℤ, ◌<◌, ◌≤◌, ◌<ℤ◌, ◌≤ℤ◌, List, length, slice_index, Option, Some, None}
use Rattle.hk_base.specs.Sets.{Has}
use Rattle.hk_group.specs.Problems.{PlainProblem}
use Rattle.hk_group.specs.Solutions.{IsSolution, IsNotAfter, cost_of}
use Rattle.hk_search.specs.declared.found.Found.{Found}

-- the first variables have these values, each one of its set
pub record IsBegun (p : PlainProblem) (front : List ℕ) : Type 0 where
  pub short : length front ≤ length p.domains
  pub inside : (variable : ℕ) → variable < length front → Has (slice_index p.domains variable) (slice_index front variable)

-- a solution of this cost is better than the best so far: it costs less, or none was found yet
abbrev pub IsBetter : ℤ → Option Found → Type 0
IsBetter cost None = Unit {0}
IsBetter cost (Some best) = cost <ℤ best.cost

-- of the solutions among the candidates it is the first of those of least cost, and this is its cost
pub record IsFirstOf (p : PlainProblem) (IsCandidate : List ℕ → Type 0) (found : Found) : Type 0 where
  pub solution : IsSolution p found.values
  pub candidate : IsCandidate found.values
  pub priced : found.cost ≡ cost_of p found.values
  pub least : (other : List ℕ) → IsCandidate other → IsSolution p other → found.cost ≤ℤ cost_of p other
  pub first : (other : List ℕ) → IsCandidate other → IsSolution p other → cost_of p other ≡ found.cost → IsNotAfter found.values other

-- the best before and after the candidates were tried: it is kept where none of their solutions is better, and else it is the first of those of least cost
pub data IsBestAfter (p : PlainProblem) (IsCandidate : List ℕ → Type 0) : Option Found → Option Found → Type 0 where
  kept : {best : Option Found}
      → ((values : List ℕ) → IsCandidate values → IsSolution p values → IsBetter (cost_of p values) best → ⊥) → IsBestAfter p IsCandidate best best
  improved : {before : Option Found} {found : Found}
      → IsBetter found.cost before → IsFirstOf p IsCandidate found → IsBestAfter p IsCandidate before (Some found)
