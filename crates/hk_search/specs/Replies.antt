-- What answers a problem after a search over diagrams with a budget: a status and a text.
use Rattle.std.specs.Prelude.{ℕ, ◌<◌, ◌≤◌, ◌||◌, not, ◌&&◌, Bool, if◌then◌else◌, is_some, List, ◌++◌, codes, Option, None, Some}
use Rattle.std.specs.Fmt.{decimal, signed_decimal}
use Rattle.hk_group.specs.Problems.{PlainProblem}
use Rattle.hk_prop.specs.Contents.{opening_content}
use Rattle.hk_search.specs.AnswerTexts.{IsAnswerText, answer_lines, finding_text}
use Rattle.hk_search.specs.Rules.{rules_of}
use Rattle.hk_search.specs.Trees.{Node, IsTight, best_after, cut, node_count}
use Rattle.hk_search.specs.declared.found.Found.{Found}
use Rattle.hk_search.specs.declared.found.Outcome.{Outcome}

-- the line of a number of nodes
abbrev pub nodes_line : ℕ → List ℕ
nodes_line nodes = codes "nodes " ++ (decimal nodes ++ codes "\n")

-- what a search found that left nodes open: the cost of its last solution and the lines of the variables, or that it found
-- none
abbrev pub unfinished_text : List (List ℕ) → Option Found → List ℕ
unfinished_text names None = codes "unknown\n"
unfinished_text names (Some found) = (codes "found " ++ (signed_decimal found.cost ++ codes "\n")) ++ answer_lines names found.values

-- the status and the text that answer a problem whose tight tree this is. Where the tree has no more nodes than the budget,
-- they are 0 and the answer's text, with the number of its nodes; and else 6 and what was found by the last solution of the
-- tree that the budget leaves, with the budget
pub data IsReplyOf (p : PlainProblem) (width budget : ℕ) (tree : Node) : ℕ → List ℕ → Type 0 where
  answered : {text : List ℕ} → node_count tree ≤ budget → IsAnswerText p text → IsReplyOf p width budget tree 0 (text ++ nodes_line (node_count tree))
  unfinished : budget < node_count tree → IsReplyOf p width budget tree 6 (unfinished_text p.names (best_after (rules_of p width) None (cut budget tree)) ++ nodes_line budget)

-- the same of the problem's own tight tree
pub record IsReply (p : PlainProblem) (width budget status : ℕ) (text : List ℕ) : Type 0 where
  pub tree : Node
  pub tight : IsTight (rules_of p width) None (opening_content p) tree
  pub reply : IsReplyOf p width budget tree status text

-- an outcome decides a problem where no leaf is open, or where there is no objective and it has a solution
abbrev pub decides : PlainProblem → Outcome → Bool
decides p outcome = outcome.complete || (not (is_some p.objective) && is_some outcome.best)

-- the status and the text of an outcome
abbrev pub status_of : PlainProblem → Outcome → ℕ
status_of p outcome = if decides p outcome then 0 else 6

abbrev pub outcome_text : PlainProblem → Outcome → List ℕ
outcome_text p outcome = (if decides p outcome then finding_text p outcome.best else unfinished_text p.names outcome.best) ++ nodes_line outcome.nodes
