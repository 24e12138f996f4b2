-- The tree of a search: the tight tree, which no budget cuts, and the tree that a budget leaves of it.
use Rattle.std.specs.Prelude.{◌≡◌, ℕ, zero, suc, ◌+◌, ◌-◌, ◌*◌, ◌&&◌, Bool, true, false, List, [], ◌∷◌, ◌++◌, length, Option, Some}
use Rattle.hk_prop.specs.Contents.{PlainTable, Content}
use Rattle.hk_prop.specs.Told.{told_more, passes_items}
use Rattle.hk_search.specs.Nodes.{NodeEnd, fails, solves, branches, end_of, first_child, second_child, bound_of, is_over}
use Rattle.hk_search.specs.Rules.{Rules}
use Rattle.hk_search.specs.Searches.{Heard}
use Rattle.hk_search.specs.declared.found.Found.{Found}
use Rattle.hk_table.specs.declared.items.TraceItem.{TraceItem}
use Rattle.hk_table.specs.declared.items.TraceItem.TheVariants as item
use Rattle.hk_text.specs.Sets.{members}

-- a node of a tree: an open leaf, which isn't entered; or the tables of its passes, and how it ends: it fails, it has a
-- solution of these values, or it branches on a variable at a value, into two children
pub data Node : Type 0 where
  open_leaf : Node
  fail_node : List (List PlainTable) → Node
  sol_node : List (List PlainTable) → List ℕ → Node
  branch_node : List (List PlainTable) → ℕ → ℕ → Node → Node → Node

-- how many nodes of a tree are entered
abbrev pub node_count : Node → ℕ
node_count open_leaf = 0
node_count (fail_node passes) = 1
node_count (sol_node passes values) = 1
node_count (branch_node passes variable value first second) = 1 + (node_count first + node_count second)

-- how many ways there are to give each variable one of its values
abbrev pub choices : List ℕ → ℕ
choices [] = 1
choices (set ∷ sets) = length (members set) * choices sets

-- no leaf of a tree is open
abbrev pub is_closed : Node → Bool
is_closed open_leaf = false
is_closed (fail_node passes) = true
is_closed (sol_node passes values) = true
is_closed (branch_node passes variable value first second) = is_closed first && is_closed second

-- the best solution after a tree: its last one, or the one before it
abbrev pub best_after : Rules → Option Found → Node → Option Found
best_after r best open_leaf = best
best_after r best (fail_node passes) = best
best_after r best (sol_node passes values) = Some (record { cost = r.cost values; values = values })
best_after r best (branch_node passes variable value first second) = best_after r (best_after r best first) second

-- the items of a tree, depth first
abbrev pub tree_items : Node → List TraceItem
tree_items open_leaf = item.OpenLeaf ∷ []
tree_items (fail_node passes) = passes_items passes ++ item.Fail ∷ []
tree_items (sol_node passes values) = passes_items passes ++ item.Sol values ∷ []
tree_items (branch_node passes variable value first second) = passes_items passes ++ item.Branch variable value ∷ (tree_items first ++ tree_items second)

-- a node is entered, since the search isn't over: these are the tables of its passes, and so it ends
pub record IsEntered (r : Rules) (best : Option Found) (at : Content) (passes : List (List PlainTable)) (end : NodeEnd) : Type 0 where
  pub goes_on : is_over r best ≡ false
  pub runs : passes ≡ (r.passes (bound_of best) at).each
  pub ends : end_of (r.passes (bound_of best) at).last.domains ≡ end

-- the tree is the tight tree from a content on, with this best solution before it. Both children of a branch begin where
-- the passes left the node, and the second has the best solution that stands after the first. A node is an open leaf exactly
-- where the search is over before it
abbrev pub IsTight : Rules → Option Found → Content → Node → Type 0
IsTight r best at open_leaf = is_over r best ≡ true
IsTight r best at (fail_node passes) = IsEntered r best at passes fails
IsTight r best at (sol_node passes values) = IsEntered r best at passes (solves values)
IsTight r best at (branch_node passes variable value first second) =
    let last = (r.passes (bound_of best) at).last in
    IsEntered r best at passes (branches variable value) × IsTight r best (first_child last variable value) first × IsTight r (best_after r best first) (second_child last variable value) second

-- the tree that enters the first so many nodes of a tree, depth first; every other child is an open leaf
abbrev pub cut : ℕ → Node → Node
cut zero node = open_leaf
cut (suc more) open_leaf = open_leaf
cut (suc more) (fail_node passes) = fail_node passes
cut (suc more) (sol_node passes values) = sol_node passes values
cut (suc more) (branch_node passes variable value first second) = branch_node passes variable value (cut more first) (cut (more - node_count first) second)

-- what a tree tells, after what was told before: its items; its last solution; how many nodes are entered; and whether no
-- leaf is open
abbrev pub with_tree : Rules → Heard → Node → Heard
with_tree r heard tree = record {
  told = told_more heard.told (tree_items tree);
  outcome = record { best = best_after r heard.outcome.best tree; nodes = heard.outcome.nodes + node_count tree; complete = heard.outcome.complete && is_closed tree };
}
