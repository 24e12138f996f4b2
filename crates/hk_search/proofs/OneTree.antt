-- There is one tight tree: there is one at least where the passes add no value, and no two.
use Rattle.std.proofs.Common.{◌≡◌, ℕ, ℤ, zero, suc, ◌<◌, ◌≤◌, Bool, true, false, List, Option, refl, sym, ap, ap₂, ◌∙◌, subst, arith}
use Rattle.hk_prop.specs.Contents.{PlainTable, Content, values_left}
use Rattle.hk_search.specs.Nodes.{NodeEnd, fails, solves, branches, end_of, first_child, second_child, bound_of, is_over}
use Rattle.hk_search.specs.Rules.{Rules}
use Rattle.hk_search.specs.Trees.{Node, open_leaf, fail_node, sol_node, branch_node, best_after, IsEntered, IsTight}
use Rattle.hk_search.specs.declared.found.Found.{Found}
use Rattle.hk_search.proofs.Children.{branch_says, first_fewer, second_fewer}

-- a node that fails does not branch, and so on
solves_same : {a b : List ℕ} → solves a ≡ solves b → a ≡ b
solves_same e = cc

branches_variable : {x y d e : ℕ} → branches x d ≡ branches y e → x ≡ y
branches_variable e = cc

branches_value : {x y d e : ℕ} → branches x d ≡ branches y e → d ≡ e
branches_value e = cc

branch_is : {passes passes' : List (List PlainTable)} {x x' d d' : ℕ} {m m' n n' : Node} → passes ≡ passes' → x ≡ x' → d ≡ d' → m ≡ m' → n ≡ n' → branch_node passes x d m n ≡ branch_node passes' x' d' m' n'
branch_is a b c d e = cc

module _ (r : Rules) where
  -- two ends of one node are the same
  same_end : {best : Option Found} {at : Content} {p q : List (List PlainTable)} {x y : NodeEnd} → IsEntered r best at p x → IsEntered r best at q y → x ≡ y
  same_end a b = sym a.ends ∙ b.ends

  same_passes : {best : Option Found} {at : Content} {p q : List (List PlainTable)} {x y : NodeEnd} → IsEntered r best at p x → IsEntered r best at q y → p ≡ q
  same_passes a b = a.runs ∙ sym b.runs

  -- no two trees are tight
  pub one_tight_tree : (best : Option Found) (at : Content) (tree other : Node) → IsTight r best at tree → IsTight r best at other → tree ≡ other
  one_tight_tree best at open_leaf open_leaf tight also = refl
  one_tight_tree best at open_leaf (fail_node passes) tight also = let goes = also.goes_on in cc
  one_tight_tree best at open_leaf (sol_node passes values) tight also = let goes = also.goes_on in cc
  one_tight_tree best at open_leaf (branch_node passes x d m n) tight also = let goes = also.0.goes_on in cc
  one_tight_tree best at (fail_node passes) open_leaf tight also = let goes = tight.goes_on in cc
  one_tight_tree best at (fail_node passes) (fail_node passes') tight also = ap (λ p. fail_node p) (same_passes tight also)
  one_tight_tree best at (fail_node passes) (sol_node passes' values) tight also = let e = same_end tight also in cc
  one_tight_tree best at (fail_node passes) (branch_node passes' x d m n) tight also = let e = same_end tight also.0 in cc
  one_tight_tree best at (sol_node passes values) open_leaf tight also = let goes = tight.goes_on in cc
  one_tight_tree best at (sol_node passes values) (fail_node passes') tight also = let e = same_end tight also in cc
  one_tight_tree best at (sol_node passes values) (sol_node passes' values') tight also = ap₂ (λ p v. sol_node p v) (same_passes tight also) (solves_same (same_end tight also))
  one_tight_tree best at (sol_node passes values) (branch_node passes' x d m n) tight also = let e = same_end tight also.0 in cc
  one_tight_tree best at (branch_node passes x d m n) open_leaf tight also = let goes = tight.0.goes_on in cc
  one_tight_tree best at (branch_node passes x d m n) (fail_node passes') tight also = let e = same_end tight.0 also in cc
  one_tight_tree best at (branch_node passes x d m n) (sol_node passes' values) tight also = let e = same_end tight.0 also in cc
  one_tight_tree best at (branch_node passes x d m n) (branch_node passes' x' d' m' n') tight also =
      let last : Content = (r.passes (bound_of best) at).last in
      let same_x : x ≡ x' = branches_variable (same_end tight.0 also.0) in
      let same_d : d ≡ d' = branches_value (same_end tight.0 also.0) in
      let first : IsTight r best (first_child last x d) m' = subst (λ y. IsTight r best (first_child last y d) m') (sym same_x) (subst (λ e. IsTight r best (first_child last x' e) m') (sym same_d) also.1) in
      let same_m : m ≡ m' = one_tight_tree best (first_child last x d) m m' tight.1 first in
      let second : IsTight r (best_after r best m) (second_child last x d) n' =
      subst (λ k. IsTight r (best_after r best k) (second_child last x d) n') (sym same_m)
      (subst (λ y. IsTight r (best_after r best m') (second_child last y d) n') (sym same_x) (subst (λ e. IsTight r (best_after r best m') (second_child last x' e) n') (sym same_d) also.2)) in
      branch_is (same_passes tight.0 also.0) same_x same_d same_m (one_tight_tree (best_after r best m) (second_child last x d) n n' tight.2 second)

-- the passes of a node never add a value
pub record Narrows (r : Rules) : Type 0 where
  pub narrows : (best : ℤ) (at : Content) → values_left (r.passes best at).last.domains ≤ values_left at.domains

module _ (r : Rules) (narrow : Narrows r) where
  -- a tree for one node, where there is one for each that has fewer values left
  one_node : (most : ℕ) → ((best : Option Found) (at : Content) → values_left at.domains < most → (tree : Node) × IsTight r best at tree) → (best : Option Found) (at : Content) → values_left at.domains < suc most
      → is_over r best ≡ false → (end : NodeEnd) → end_of (r.passes (bound_of best) at).last.domains ≡ end → (tree : Node) × IsTight r best at tree
  one_node most below best at few goes fails ends = (fail_node (r.passes (bound_of best) at).each, record { goes_on = goes; runs = refl; ends = ends })
  one_node most below best at few goes (solves values) ends = (sol_node (r.passes (bound_of best) at).each values, record { goes_on = goes; runs = refl; ends = ends })
  one_node most below best at few goes (branches x d) ends =
      let last : Content = (r.passes (bound_of best) at).last in
      let says = branch_says last.domains x d ends in
      let fewer : values_left last.domains ≤ values_left at.domains = narrow.narrows (bound_of best) at in
      let first = below best (first_child last x d) (omega (arith, first_fewer last x d says, fewer, few)) in
      let second = below (best_after r best first.0) (second_child last x d) (omega (arith, second_fewer last x d says, fewer, few)) in
      (branch_node (r.passes (bound_of best) at).each x d first.0 second.0, (record { goes_on = goes; runs = refl; ends = ends }, first.1, second.1))

  node_or_leaf : (most : ℕ) → ((best : Option Found) (at : Content) → values_left at.domains < most → (tree : Node) × IsTight r best at tree) → (best : Option Found) (at : Content) → values_left at.domains < suc most
      → (b : Bool) → is_over r best ≡ b → (tree : Node) × IsTight r best at tree
  node_or_leaf most below best at few true over = (open_leaf, over)
  node_or_leaf most below best at few false goes = one_node most below best at few goes (end_of (r.passes (bound_of best) at).last.domains) refl

  pub some_tight_tree : (most : ℕ) (best : Option Found) (at : Content) → values_left at.domains < most → (tree : Node) × IsTight r best at tree
  some_tight_tree zero best at few = absurd (omega arith)
  some_tight_tree (suc most) best at few = node_or_leaf most (λ b c f. some_tight_tree most b c f) best at few (is_over r best) refl
