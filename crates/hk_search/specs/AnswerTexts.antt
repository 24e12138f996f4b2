-- The text that answers a problem.
use Rattle.std.specs.Prelude.{ℕ, ℤ, List, [], ◌∷◌, ◌++◌, Some, None, codes}
use Rattle.std.specs.declared.option.Option.{Option}
use Rattle.std.specs.Fmt.{decimal, signed_decimal}
use Rattle.hk_group.specs.declared.linear.Linear.{Linear}
use Rattle.hk_group.specs.Problems.{PlainProblem}
use Rattle.hk_group.specs.Solutions.{IsAnswer, cost_of}
use Rattle.hk_search.specs.Findings.{HasNoSolution}
use Rattle.hk_search.specs.declared.found.Found.{Found}

-- a variable's line: its name, a space and its value in decimal
abbrev pub answer_line : List ℕ → ℕ → List ℕ
answer_line name value = name ++ (codes " " ++ (decimal value ++ codes "\n"))

-- a line for each variable that has a value, in order
abbrev pub answer_lines : List (List ℕ) → List ℕ → List ℕ
answer_lines [] values = []
answer_lines (name ∷ names) [] = []
answer_lines (name ∷ names) (value ∷ values) = answer_line name value ++ answer_lines names values

-- the line of a least cost, with its sign
abbrev pub optimal_line : ℤ → List ℕ
optimal_line cost = codes "optimal " ++ (signed_decimal cost ++ codes "\n")

-- the first line for a solution: `solution`, and with an objective the line of its cost
abbrev pub first_line : Option Linear → ℤ → List ℕ
first_line None cost = codes "solution\n"
first_line (Some objective) cost = optimal_line cost

-- the text of what a search found: a first line, and after that of a solution the lines of the variables
abbrev pub finding_text : PlainProblem → Option Found → List ℕ
finding_text p None = codes "infeasible\n"
finding_text p (Some found) = first_line p.objective found.cost ++ answer_lines p.names found.values

-- the text that answers a problem
pub data IsAnswerText (p : PlainProblem) : List ℕ → Type 0 where
  infeasible : HasNoSolution p → IsAnswerText p (codes "infeasible\n")
  solved : (values : List ℕ) → IsAnswer p values → IsAnswerText p (first_line p.objective (cost_of p values) ++ answer_lines p.names values)
