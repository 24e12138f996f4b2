-- What a finished search found.
use Rattle.std.specs.Prelude.{◌≡◌, ℕ, List, Some, None}
use Rattle.std.specs.declared.option.Option.{Option}
use Rattle.hk_group.specs.Problems.{PlainProblem}
use Rattle.hk_group.specs.Solutions.{IsSolution, IsAnswer, cost_of}
use Rattle.hk_search.specs.declared.found.Found.{Found}

-- no values solve the problem
abbrev pub HasNoSolution : PlainProblem → Type 0
HasNoSolution p = (values : List ℕ) → IsSolution p values → ⊥

-- what a finished search found: the problem's answer with its cost, or that there is no solution
abbrev pub IsFinding : PlainProblem → Option Found → Type 0
IsFinding p None = HasNoSolution p
IsFinding p (Some found) = IsAnswer p found.values × (found.cost ≡ cost_of p found.values)
