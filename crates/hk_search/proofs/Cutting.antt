-- What is due of a search is what the tight tree tells, cut at the budget.
use Rattle.std.proofs.Common.{◌≡◌, ℕ, zero, suc, ◌+◌, ◌-◌, ◌&&◌, Bool, true, false, if◌then◌else◌, List, [], ◌∷◌, ◌++◌, Option, refl, sym, ap, ◌∙◌, subst, arith, append_assoc}
use Rattle.hk_prop.specs.Contents.{PlainTable, Content}
use Rattle.hk_prop.specs.Told.{told_more, passes_items}
use Rattle.hk_prop.proofs.Fuel.{told_twice}
use Rattle.hk_search.specs.Nodes.{fails, solves, branches, first_child, second_child, bound_of, is_over}
use Rattle.hk_search.specs.Rules.{Rules}
use Rattle.hk_search.specs.Searches.{Heard, left_open, shut, Turn, turn_by, turn, with_node, finish}
use Rattle.hk_search.specs.Trees.{Node, open_leaf, fail_node, sol_node, branch_node, node_count, is_closed, best_after, tree_items, IsEntered, IsTight, cut, with_tree}
use Rattle.hk_search.specs.declared.found.Found.{Found}
use Rattle.hk_table.specs.declared.items.TraceItem.{TraceItem}
use Rattle.hk_table.specs.declared.items.TraceItem.TheVariants as item

-- equal parts make equal states of a search
pub heard_is : {told told' : Option (List TraceItem)} {best best' : Option Found} {nodes nodes' : ℕ} {complete complete' : Bool} → told ≡ told' → best ≡ best' → nodes ≡ nodes' → complete ≡ complete'
    → let before : Heard = record { told = told; outcome = record { best = best; nodes = nodes; complete = complete } } in
    let after : Heard = record { told = told'; outcome = record { best = best'; nodes = nodes'; complete = complete' } } in before ≡ after
heard_is a b c d = cc

and_true : (b : Bool) → (b && true) ≡ b
and_true true = refl
and_true false = refl

and_false : (b : Bool) → (b && false) ≡ false
and_false true = refl
and_false false = refl

and_assoc : (a b c : Bool) → ((a && b) && c) ≡ (a && (b && c))
and_assoc true b c = refl
and_assoc false b c = refl

module _ (r : Rules) where
  -- what several trees tell, one after the other
  abbrev pub with_trees : Heard → List Node → Heard
  with_trees heard [] = heard
  with_trees heard (tree ∷ trees) = with_trees (with_tree r heard tree) trees

  -- the first so many nodes of several trees
  abbrev pub cut_all : ℕ → List Node → List Node
  cut_all budget [] = []
  cut_all budget (tree ∷ trees) = cut budget tree ∷ cut_all (budget - node_count tree) trees

  -- a tight tree for each node that waits
  abbrev pub Forest : Option Found → List Content → List Node → Type 0
  Forest best [] [] = Unit {0}
  Forest best [] (tree ∷ trees) = ⊥
  Forest best (at ∷ later) [] = ⊥
  Forest best (at ∷ later) (tree ∷ trees) = IsTight r best at tree × Forest (best_after r best tree) later trees

  -- an open leaf
  left_is : (heard : Heard) → with_tree r heard open_leaf ≡ left_open heard
  left_is heard = heard_is refl refl (omega arith) (and_false heard.outcome.complete)

  -- without budget none of those that wait is entered
  none_entered : (heard : Heard) (best : Option Found) (waiting : List Content) (trees : List Node) → Forest best waiting trees → with_trees heard (cut_all zero trees) ≡ shut heard waiting
  none_entered heard best [] [] forest = refl
  none_entered heard best [] (tree ∷ trees) forest = absurd forest
  none_entered heard best (at ∷ later) [] forest = absurd forest
  none_entered heard best (at ∷ later) (tree ∷ trees) forest =
      let none : zero - node_count tree ≡ zero = omega arith in
      ap (λ n. with_trees (with_tree r heard open_leaf) (cut_all n trees)) none
      ∙ (ap (λ h. with_trees h (cut_all zero trees)) (left_is heard) ∙ none_entered (left_open heard) (best_after r best tree) later trees forest.1)

  -- a node before which the search is over is open
  pub open_when_over : (best : Option Found) (at : Content) (tree : Node) → is_over r best ≡ true → IsTight r best at tree → tree ≡ open_leaf
  open_when_over best at open_leaf over tight = refl
  open_when_over best at (fail_node passes) over tight = let goes = tight.goes_on in cc
  open_when_over best at (sol_node passes values) over tight = let goes = tight.goes_on in cc
  open_when_over best at (branch_node passes variable value first second) over tight = let goes = tight.0.goes_on in cc

  -- and so none of those that wait is entered then, whatever the budget
  none_when_over : (budget : ℕ) (heard : Heard) (best : Option Found) (waiting : List Content) (trees : List Node) → is_over r best ≡ true → Forest best waiting trees → with_trees heard (cut_all (suc budget) trees) ≡ shut heard waiting
  none_when_over budget heard best [] [] over forest = refl
  none_when_over budget heard best [] (tree ∷ trees) over forest = absurd forest
  none_when_over budget heard best (at ∷ later) [] over forest = absurd forest
  none_when_over budget heard best (at ∷ later) (tree ∷ trees) over forest =
      let is_open = open_when_over best at tree over forest.0 in
      let rest : Forest best later trees = subst (λ t. Forest (best_after r best t) later trees) is_open forest.1 in
      let same : suc budget - 0 ≡ suc budget = omega arith in
      ap (λ t. with_trees (with_tree r heard (cut (suc budget) t)) (cut_all (suc budget - node_count t) trees)) is_open
      ∙ (ap (λ n. with_trees (with_tree r heard open_leaf) (cut_all n trees)) same
      ∙ (ap (λ h. with_trees h (cut_all (suc budget) trees)) (left_is heard) ∙ none_when_over budget (left_open heard) best later trees over rest))

  -- a node of the tight tree is entered as the search enters it
  turn_fails : (heard : Heard) (at : Content) (passes : List (List PlainTable)) → IsEntered r heard.outcome.best at passes fails → turn r heard at ≡ record { heard = with_tree r heard (fail_node passes); children = [] }
  turn_fails heard at passes is =
      ap (turn_by r heard (r.passes (bound_of heard.outcome.best) at)) is.ends
      ∙ ap (λ (h : Heard). let t : Turn = record { heard = h; children = [] } in t)
      (heard_is (ap (λ each. told_more heard.told (passes_items each ++ item.Fail ∷ [])) (sym is.runs)) refl refl (sym (and_true heard.outcome.complete)))

  turn_solves : (heard : Heard) (at : Content) (passes : List (List PlainTable)) (values : List ℕ) → IsEntered r heard.outcome.best at passes (solves values) → turn r heard at ≡ record { heard = with_tree r heard (sol_node passes values); children = [] }
  turn_solves heard at passes values is =
      ap (turn_by r heard (r.passes (bound_of heard.outcome.best) at)) is.ends
      ∙ ap (λ (h : Heard). let t : Turn = record { heard = h; children = [] } in t)
      (heard_is (ap (λ each. told_more heard.told (passes_items each ++ item.Sol values ∷ [])) (sym is.runs)) refl refl (sym (and_true heard.outcome.complete)))

  turn_branches : (heard : Heard) (at : Content) (passes : List (List PlainTable)) (variable value : ℕ) → IsEntered r heard.outcome.best at passes (branches variable value)
      → let last = (r.passes (bound_of heard.outcome.best) at).last in
      turn r heard at ≡ record { heard = with_node heard (passes_items passes ++ item.Branch variable value ∷ []) heard.outcome.best; children = first_child last variable value ∷ second_child last variable value ∷ [] }
  turn_branches heard at passes variable value is =
      let last = (r.passes (bound_of heard.outcome.best) at).last in
      ap (turn_by r heard (r.passes (bound_of heard.outcome.best) at)) is.ends
      ∙ ap (λ (h : Heard). let t : Turn = record { heard = h; children = first_child last variable value ∷ second_child last variable value ∷ [] } in t)
      (heard_is (ap (λ each. told_more heard.told (passes_items each ++ item.Branch variable value ∷ [])) (sym is.runs)) refl refl refl)

  -- a branch and its two children tell what the branch's tree tells
  children_told : (heard : Heard) (passes : List (List PlainTable)) (variable value : ℕ) (first second : Node)
      → with_tree r (with_tree r (with_node heard (passes_items passes ++ item.Branch variable value ∷ []) heard.outcome.best) first) second ≡ with_tree r heard (branch_node passes variable value first second)
  children_told heard passes variable value first second =
      heard_is (ap (λ t. told_more t (tree_items second)) (told_twice heard.told (passes_items passes ++ item.Branch variable value ∷ []) (tree_items first))
      ∙ (told_twice heard.told ((passes_items passes ++ item.Branch variable value ∷ []) ++ tree_items first) (tree_items second)
      ∙ ap (told_more heard.told) (ap (λ l. l ++ tree_items second) (append_assoc (passes_items passes) (item.Branch variable value ∷ []) (tree_items first))
      ∙ append_assoc (passes_items passes) (item.Branch variable value ∷ tree_items first) (tree_items second))))
      refl (omega arith) (and_assoc heard.outcome.complete (is_closed first) (is_closed second))

  -- the first of those that wait is entered, and the rest goes on with one node less
  module _ (more : ℕ) (goes_on : (heard : Heard) (waiting : List Content) (trees : List Node) → Forest heard.outcome.best waiting trees → finish r more heard waiting ≡ with_trees heard (cut_all more trees))
      (heard : Heard) (at : Content) (later : List Content) (trees : List Node) where
    entered : (tree : Node) → is_over r heard.outcome.best ≡ false → Forest heard.outcome.best (at ∷ later) (tree ∷ trees)
        → (let turned = turn r heard at in finish r more turned.heard (turned.children ++ later)) ≡ with_trees heard (cut_all (suc more) (tree ∷ trees))
    entered open_leaf not_over forest = let over = forest.0 in cc
    entered (fail_node passes) not_over forest =
        let one : more ≡ suc more - 1 = omega arith in
        ap (λ (t : Turn). finish r more t.heard (t.children ++ later)) (turn_fails heard at passes forest.0)
        ∙ (goes_on (with_tree r heard (fail_node passes)) later trees forest.1
        ∙ ap (λ n. with_trees (with_tree r heard (fail_node passes)) (cut_all n trees)) one)
    entered (sol_node passes values) not_over forest =
        let one : more ≡ suc more - 1 = omega arith in
        ap (λ (t : Turn). finish r more t.heard (t.children ++ later)) (turn_solves heard at passes values forest.0)
        ∙ (goes_on (with_tree r heard (sol_node passes values)) later trees forest.1
        ∙ ap (λ n. with_trees (with_tree r heard (sol_node passes values)) (cut_all n trees)) one)
    entered (branch_node passes variable value first second) not_over forest =
        let last : Content = (r.passes (bound_of heard.outcome.best) at).last in
        let begins : Heard = with_node heard (passes_items passes ++ item.Branch variable value ∷ []) heard.outcome.best in
        let one : more - node_count first - node_count second ≡ suc more - (1 + (node_count first + node_count second)) = omega arith in
        ap (λ (t : Turn). finish r more t.heard (t.children ++ later)) (turn_branches heard at passes variable value forest.0.0)
        ∙ (goes_on begins (first_child last variable value ∷ second_child last variable value ∷ later) (first ∷ second ∷ trees) (forest.0.1, (forest.0.2, forest.1))
        ∙ (ap (λ h. with_trees h (cut_all (more - node_count first - node_count second) trees)) (children_told heard passes variable value (cut more first) (cut (more - node_count first) second))
        ∙ ap (λ n. with_trees (with_tree r heard (cut (suc more) (branch_node passes variable value first second))) (cut_all n trees)) one))

    one_more : (tree : Node) → Forest heard.outcome.best (at ∷ later) (tree ∷ trees) → (b : Bool) → is_over r heard.outcome.best ≡ b
        → (if b then shut heard (at ∷ later) else (let turned = turn r heard at in finish r more turned.heard (turned.children ++ later))) ≡ with_trees heard (cut_all (suc more) (tree ∷ trees))
    one_more tree forest true over = sym (none_when_over more heard heard.outcome.best (at ∷ later) (tree ∷ trees) over forest)
    one_more tree forest false not_over = entered tree not_over forest

  -- what a search with this much budget left has told in the end
  pub finish_cut : (budget : ℕ) (heard : Heard) (waiting : List Content) (trees : List Node) → Forest heard.outcome.best waiting trees → finish r budget heard waiting ≡ with_trees heard (cut_all budget trees)
  finish_cut zero heard waiting trees forest = sym (none_entered heard heard.outcome.best waiting trees forest)
  finish_cut (suc more) heard [] [] forest = refl
  finish_cut (suc more) heard [] (tree ∷ trees) forest = absurd forest
  finish_cut (suc more) heard (at ∷ later) [] forest = absurd forest
  finish_cut (suc more) heard (at ∷ later) (tree ∷ trees) forest =
      one_more more (λ h w t f. finish_cut more h w t f) heard at later trees tree forest (is_over r heard.outcome.best) refl

  -- a search of one tree
  pub finish_tree : (budget : ℕ) (heard : Heard) (at : Content) (tree : Node) → IsTight r heard.outcome.best at tree → finish r budget heard (at ∷ []) ≡ with_tree r heard (cut budget tree)
  finish_tree budget heard at tree tight = finish_cut budget heard (at ∷ []) (tree ∷ []) (tight, tt)
