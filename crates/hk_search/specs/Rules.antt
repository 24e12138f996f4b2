-- What a search over diagrams uses of a problem.
use Rattle.std.specs.Prelude.{ℕ, ℤ, Bool, List, is_some}
use Rattle.hk_group.specs.Problems.{PlainProblem}
use Rattle.hk_group.specs.Solutions.{cost_of}
use Rattle.hk_prop.specs.Contents.{Content}
use Rattle.hk_prop.specs.Passes.{NodePasses, node_passes}

-- the passes of a node that begins at a content, under a bound on the cost; what values cost; whether there is an objective
pub record Rules : Type 0 where
  pub passes : ℤ → Content → NodePasses
  pub cost : List ℕ → ℤ
  pub has_objective : Bool

-- those of a problem and a width
abbrev pub rules_of : PlainProblem → ℕ → Rules
rules_of p width = record { passes = node_passes p width; cost = cost_of p; has_objective = is_some p.objective }
