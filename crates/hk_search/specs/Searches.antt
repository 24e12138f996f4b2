-- A search with a budget, as a function on the list of the nodes that wait to be entered.
use Rattle.std.specs.Prelude.{ℕ, zero, suc, ◌+◌, ◌-◌, true, false, if◌then◌else◌, List, [], ◌∷◌, ◌++◌, Option, None, Some}
use Rattle.hk_prop.specs.Contents.{Content}
use Rattle.hk_prop.specs.Passes.{NodePasses}
use Rattle.hk_prop.specs.Told.{told_more, passes_items}
use Rattle.hk_search.specs.Nodes.{NodeEnd, fails, solves, branches, end_of, first_child, second_child, bound_of, is_over}
use Rattle.hk_search.specs.Rules.{Rules}
use Rattle.hk_search.specs.declared.found.Found.{Found}
use Rattle.hk_search.specs.declared.found.Outcome.{Outcome}
use Rattle.hk_table.specs.declared.items.TraceItem.{TraceItem}
use Rattle.hk_table.specs.declared.items.TraceItem.TheVariants as item

-- what a search has told its trace, where the list is told, and its outcome so far
pub record Heard : Type 0 where
  pub told : Option (List TraceItem)
  pub outcome : Outcome

-- before the first node
abbrev pub begun : Option (List TraceItem) → Heard
begun told = record { told = told; outcome = record { best = None; nodes = 0; complete = true } }

-- a node that waits isn't entered: an open leaf, so that the search isn't complete
abbrev pub left_open : Heard → Heard
left_open heard = record { told = told_more heard.told (item.OpenLeaf ∷ []); outcome = record heard.outcome { complete = false } }

-- none of those that wait is entered
abbrev pub shut : Heard → List Content → Heard
shut heard [] = heard
shut heard (at ∷ later) = shut (left_open heard) later

-- one node is entered: what is told then, and its children, which wait from now on
pub record Turn : Type 0 where
  pub heard : Heard
  pub children : List Content

-- a node was entered that told these items, and this is the best solution from now on
abbrev pub with_node : Heard → List TraceItem → Option Found → Heard
with_node heard items best = record { told = told_more heard.told items; outcome = record { best = best; nodes = heard.outcome.nodes + 1; complete = heard.outcome.complete } }

-- the items of a node are those of its passes and one for its end. A solution is the best from now on; a branch has two
-- children
abbrev pub turn_by : Rules → Heard → NodePasses → NodeEnd → Turn
turn_by r heard passes fails = record { heard = with_node heard (passes_items passes.each ++ item.Fail ∷ []) heard.outcome.best; children = [] }
turn_by r heard passes (solves values) = record { heard = with_node heard (passes_items passes.each ++ item.Sol values ∷ []) (Some (record { cost = r.cost values; values = values })); children = [] }
turn_by r heard passes (branches variable value) = record {
  heard = with_node heard (passes_items passes.each ++ item.Branch variable value ∷ []) heard.outcome.best;
  children = first_child passes.last variable value ∷ second_child passes.last variable value ∷ [];
}

-- the node that begins at a content is entered, under the best solution so far
abbrev pub turn : Rules → Heard → Content → Turn
turn r heard at = let passes = r.passes (bound_of heard.outcome.best) at in turn_by r heard passes (end_of passes.last.domains)

-- the rest of a search that may enter so many nodes more, and before which these wait, the next one first. Children come
-- before those that waited already
abbrev pub finish : Rules → ℕ → Heard → List Content → Heard
finish r zero heard waiting = shut heard waiting
finish r (suc more) heard [] = heard
finish r (suc more) heard (at ∷ later) =
    if is_over r heard.outcome.best then shut heard (at ∷ later) else (let entered = turn r heard at in finish r more entered.heard (entered.children ++ later))

-- what is due of a search with a budget of so many nodes in all
abbrev pub due : Rules → ℕ → Heard → List Content → Heard
due r budget heard waiting = finish r (budget - heard.outcome.nodes) heard waiting
