-- How a node of a search ends, and where its children begin.
use Rattle.std.specs.Prelude.{ℕ, ◌==◌, nat_lt, ℤ, not, ◌&&◌, Bool, true, false, List, [], ◌∷◌, length, map, position, slice_index, slice_set, is_some, Option, None, Some}
use Rattle.hk_base.specs.Limits.{number_limit}
use Rattle.hk_prop.specs.Contents.{Content, has_empty}
use Rattle.hk_prop.specs.Passes.{values_that}
use Rattle.hk_search.specs.Rules.{Rules}
use Rattle.hk_search.specs.declared.found.Found.{Found}
use Rattle.hk_spec.specs.Meanings.{set_of}
use Rattle.hk_text.specs.Sets.{members}

-- after its passes a node fails, has a solution, or branches on a variable at a value
pub data NodeEnd : Type 0 where
  fails : NodeEnd
  solves : List ℕ → NodeEnd
  branches : ℕ → ℕ → NodeEnd

-- the least value of a set
abbrev pub least_value : ℕ → ℕ
least_value set = slice_index (members set) 0

-- the first variable with two values or more
abbrev pub first_unfixed : List ℕ → Option ℕ
first_unfixed domains = position (λ set. nat_lt 1 (length (members set))) domains

-- where some variable has no value a node fails; where each has one it has the solution of these values; else it branches
-- on the first variable with more, at its least value
abbrev pub end_by : List ℕ → Bool → Option ℕ → NodeEnd
end_by domains true unfixed = fails
end_by domains false None = solves (map least_value domains)
end_by domains false (Some variable) = branches variable (least_value (slice_index domains variable))

-- how a node ends whose passes leave these domains
abbrev pub end_of : List ℕ → NodeEnd
end_of domains = end_by domains (has_empty domains) (first_unfixed domains)

-- the first child of a branch begins where the passes left the node, with the variable at the value
abbrev pub first_child : Content → ℕ → ℕ → Content
first_child at variable value = record at { domains = slice_set at.domains variable (set_of (value ∷ [])) }

-- the second one with the variable at any other of its values
abbrev pub second_child : Content → ℕ → ℕ → Content
second_child at variable value = record at { domains = slice_set at.domains variable (values_that (λ other. not (other == value)) (slice_index at.domains variable)) }

-- what a solution has to cost less than: the best so far, or the limit, which is above every cost
abbrev pub bound_of : Option Found → ℤ
bound_of None = number_limit
bound_of (Some found) = found.cost

-- without objective a search is over once it has a solution
abbrev pub is_over : Rules → Option Found → Bool
is_over r best = not r.has_objective && is_some best
