-- How many nodes a tight tree has at most.
use Rattle.std.proofs.Common.{◌≡◌, ℕ, ℤ, zero, suc, ◌+◌, ◌*◌, ◌^◌, ◌<◌, ◌≤◌, eqb, not, ◌||◌, Bool, true, false, List, [], ◌∷◌, length, get_or, set, slice_index, All, Option, None, refl, sym, ap, ◌∙◌, inl, inr, arith, add-mul, mul-add, mul-pos, mul-le-mul}
use Rattle.std.proofs.lemmas.Bool.{eqb-false}
use Rattle.std.proofs.lemmas.List.Elements.{All-head, All-set, All-tail}
use Rattle.hk_group.specs.Problems.{PlainProblem, IsValid}
use Rattle.hk_spec.specs.Meanings.{set_of}
use Rattle.hk_table.specs.Members.{Member, first, later}
use Rattle.hk_table.proofs.Members.{Member-cases, Member-members}
use Rattle.hk_text.specs.Sets.{members}
use Rattle.hk_prop.specs.Contents.{Content, opening_content, has_empty}
use Rattle.hk_prop.specs.Passes.{pass, pruned_from, values_that, node_passes}
use Rattle.hk_prop.specs.Supports.{all_allow}
use Rattle.hk_prop.proofs.Fuel.{after_passes}
use Rattle.hk_prop.proofs.Prunings.{pruned_small}
use Rattle.hk_prop.proofs.SoundParts.{value_small}
use Rattle.hk_prop.proofs.ValueSets.{fewer_values, set_of-small, values_that-small}
use Rattle.hk_search.specs.Nodes.{first_child, second_child, bound_of}
use Rattle.hk_search.specs.Rules.{rules_of}
use Rattle.hk_search.specs.Trees.{Node, open_leaf, fail_node, sol_node, branch_node, node_count, choices, IsTight, best_after}
use Rattle.hk_search.specs.declared.found.Found.{Found}
use Rattle.hk_search.proofs.Children.{branch_has, branch_says, parted}
use Rattle.hk_search.proofs.RealRules.{some_member}

-- what has a member is at least one
some_length : {x : ℕ} {xs : List ℕ} → Member x xs → 0 < length xs
some_length first = omega arith
some_length (later m) = omega arith

-- the parts of a product that isn't 0
left_some : (a b : ℕ) → 0 < a * b → 0 < a
left_some zero b some = absurd (omega arith)
left_some (suc a) b some = omega arith

right_some : (a b : ℕ) → 0 < a * b → 0 < b
right_some a zero some = absurd (omega arith)
right_some a (suc b) some = omega arith

-- the choices in two sets that share out a variable's values add up
choices_parted : (sets : List ℕ) (k a b : ℕ) → k < length sets → length (members (slice_index sets k)) ≡ length (members a) + length (members b) → choices (set sets k a) + choices (set sets k b) ≡ choices sets
choices_parted [] k a b within counts = absurd (omega arith)
choices_parted (s ∷ sets) zero a b within counts = sym (add-mul (length (members a)) (length (members b)) (choices sets)) ∙ ap (λ n. n * choices sets) (sym counts)
choices_parted (s ∷ sets) (suc k) a b within counts =
    sym (mul-add (length (members s)) (choices (set sets k a)) (choices (set sets k b))) ∙ ap (λ n. length (members s) * n) (choices_parted sets k a b (omega arith) counts)

choices_some : (sets : List ℕ) (k a : ℕ) → k < length sets → 0 < length (members a) → 0 < choices sets → 0 < choices (set sets k a)
choices_some [] k a within more some = absurd (omega arith)
choices_some (s ∷ sets) zero a within more some = mul-pos more (right_some (length (members s)) (choices sets) some)
choices_some (s ∷ sets) (suc k) a within more some = mul-pos (left_some (length (members s)) (choices sets) some) (choices_some sets k a (omega arith) more (right_some (length (members s)) (choices sets) some))

choices_pruned : (allowed : ℕ → ℕ → Bool) (from : ℕ) (sets : List ℕ) → choices (pruned_from allowed from sets) ≤ choices sets
choices_pruned allowed from [] = omega arith
choices_pruned allowed from (s ∷ sets) = mul-le-mul (fewer_values (allowed from) s) (choices_pruned allowed (from + 1) sets)

choices_filled : (sets : List ℕ) → All (λ s. s < 2 ^ 128) sets → has_empty sets ≡ false → 0 < choices sets
choices_filled [] small filled = omega arith
choices_filled (s ∷ sets) small filled =
    let parts = neither (eqb s 0) (has_empty sets) filled in
    mul-pos (some_length (some_member s (All-head (λ t. t < 2 ^ 128) s sets small) (eqb-false s 0 parts.0))) (choices_filled sets (All-tail (λ t. t < 2 ^ 128) s sets small) parts.1)
  where
    neither : (a b : Bool) → (a || b) ≡ false → (a ≡ false) × (b ≡ false)
    neither true b e = cc
    neither false b e = (refl, e)

module _ (p : PlainProblem) (width : ℕ) where
  node_choices : (best : ℤ) (at : Content) → choices (node_passes p width best at).last.domains ≤ choices at.domains
  node_choices best at = after_passes p width best (λ c. choices c.domains ≤ choices at.domains)
      (λ c less. let pruned = choices_pruned (all_allow p.domains p.groups (pass p width best c).tables) 0 c.domains in omega (arith, pruned, less)) _ at (omega arith)

  node_small : (best : ℤ) (at : Content) → All (λ s. s < 2 ^ 128) at.domains → All (λ s. s < 2 ^ 128) (node_passes p width best at).last.domains
  node_small best at small = after_passes p width best (λ c. All (λ s. s < 2 ^ 128) c.domains) (λ c before. pruned_small (all_allow p.domains p.groups (pass p width best c).tables) 0 c.domains) _ at small

  pub count_most : (best : Option Found) (at : Content) (tree : Node) → All (λ s. s < 2 ^ 128) at.domains → 0 < choices at.domains → IsTight (rules_of p width) best at tree → node_count tree + 1 ≤ 2 * choices at.domains
  count_most best at open_leaf small some tight = omega (arith, some)
  count_most best at (fail_node passes) small some tight = omega (arith, some)
  count_most best at (sol_node passes values) small some tight = omega (arith, some)
  count_most best at (branch_node passes variable value m n) small some tight =
      let last : Content = (node_passes p width (bound_of best) at).last in
      let says = branch_says last.domains variable value tight.0.ends in
      let fits = node_small (bound_of best) at small in
      let alone : (v : ℕ) → Member v (value ∷ []) → v ≡ value = λ v among. elim (Member-cases among) [ inl same ↦ same | inr none ↦ elim none [ ] ] in
      let filled : 0 < choices last.domains = choices_filled last.domains fits says.filled in
      let one : ℕ = set_of (value ∷ []) in
      let rest : ℕ = values_that (λ other. not (eqb other value)) (slice_index last.domains variable) in
      let counts = parted says in
      let one_some : 0 < length (members one) = omega (arith, counts.0) in
      let rest_some : 0 < length (members rest) = omega (arith, counts.1, says.several) in
      let first = count_most best (first_child last variable value) m (All-set (λ s. s < 2 ^ 128) last.domains variable one (set_of-small (value ∷ []) (λ v among. omega (arith, (branch_has says).1, alone v among))) fits) (choices_some last.domains variable one says.within one_some filled) tight.1 in
      let second = count_most (best_after (rules_of p width) best m) (second_child last variable value) n (All-set (λ s. s < 2 ^ 128) last.domains variable rest (values_that-small (λ other. not (eqb other value)) (slice_index last.domains variable)) fits) (choices_some last.domains variable rest says.within rest_some filled) tight.2 in
      omega (arith, first, second, node_choices (bound_of best) at, choices_parted last.domains variable one rest says.within (omega (arith, counts.0, counts.1)))

all_filled : (sets : List ℕ) → ((k d : ℕ) → k < length sets → 0 < length (members (get_or sets k d))) → 0 < choices sets
all_filled [] each = omega arith
all_filled (s ∷ sets) each = mul-pos (each 0 0 (omega arith)) (all_filled sets (λ k d within. each (suc k) d (omega arith)))

-- of a valid problem's tight tree
pub root_count_most : (p : PlainProblem) → IsValid p → (width : ℕ) (tree : Node) → IsTight (rules_of p width) None (opening_content p) tree → node_count tree + 1 ≤ 2 * choices p.domains
root_count_most p valid width tree tight =
    count_most p width None (opening_content p) tree (λ k d within. let domain = valid.domains k d within in domain.small)
    (all_filled p.domains (λ k d within.
    let domain = valid.domains k d within in
    some_length (Member-members (get_or p.domains k d) domain.least (value_small (get_or p.domains k d) domain.least domain.small domain.some) domain.some))) tight
