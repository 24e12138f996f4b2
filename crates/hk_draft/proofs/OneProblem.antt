-- A draft has one problem, which is valid where the draft is.
use Rattle.std.proofs.Common.{◌≡◌, ℕ, ◌<◌, ◌≤◌, ◌⊎◌, inl, inr, Bool, List, [], ◌∷◌, map, Contains, refl, sym, subst, ◌∙◌, arith}
use Rattle.std.specs.Prelude.{All, Any}
use Rattle.std.proofs.lemmas.List.{length-map}
use Rattle.std.proofs.lemmas.List.Elements.{All-head, All-tail, All-contains}
use Rattle.std.proofs.lemmas.List.Folds.{flat_map-map}
use Rattle.std.proofs.lemmas.List.Kept.{AllPairs-from_increasing}
use Rattle.hk_group.specs.Groups.{Part, PlainGroup, IsGroup}
use Rattle.hk_group.specs.Limits.{most_groups}
use Rattle.hk_group.specs.Grouping.{HaveParts}
use Rattle.hk_group.specs.Problems.{PlainProblem, IsValid}
use Rattle.hk_draft.specs.Drafts.{PlainDraft, IsOf, IsValidDraft}
use Rattle.hk_draft.proofs.CountDecisions.{pairs_head, pairs_tail}
use Rattle.hk_draft.proofs.RisingSets.{Rise, first_in, first_or_later, later_is_in}

-- rising numbers are determined by which they are
same_first : (x y : ℕ) (xs ys : List ℕ) → Rise (x ∷ xs) → Rise (y ∷ ys) → Contains (y ∷ ys) x → Contains (x ∷ xs) y → x ≡ y
same_first x y xs ys up up' there back = by (first_or_later y ys x there) (first_or_later x xs y back)
  where
    by : (y ≡ x) ⊎ Contains ys x → (x ≡ y) ⊎ Contains xs y → x ≡ y
    by (inl same) other = sym same
    by (inr later) (inl same) = same
    by (inr later) (inr other) =
        let above : y < x = All-contains (λ v. y < v) ys x (pairs_head (λ a b. a < b) y ys up') later in
        let below : x < y = All-contains (λ v. x < v) xs y (pairs_head (λ a b. a < b) x xs up) other in
        omega (arith, above, below)

-- what is in the rest of one is in the rest of the other
later_in : (x y : ℕ) (xs ys : List ℕ) → x ≡ y → Rise (x ∷ xs) → ((v : ℕ) → Contains (x ∷ xs) v → Contains (y ∷ ys) v) → (v : ℕ) → Contains xs v → Contains ys v
later_in x y xs ys same up into v is = by (first_or_later y ys v (into v (later_is_in x xs v is)))
  where
    by : (y ≡ v) ⊎ Contains ys v → Contains ys v
    by (inl first) = let above : x < v = All-contains (λ u. x < u) xs v (pairs_head (λ a b. a < b) x xs up) is in absurd (omega (arith, above, first, same))
    by (inr later) = later

same_rise : (xs ys : List ℕ) → Rise xs → Rise ys → ((v : ℕ) → Contains xs v → Contains ys v) → ((v : ℕ) → Contains ys v → Contains xs v) → xs ≡ ys
same_rise [] [] up up' there back = refl
same_rise [] (y ∷ ys) up up' there back = let is = back y (first_in y ys) in absurd (omega (arith, is.1))
same_rise (x ∷ xs) [] up up' there back = let is = there x (first_in x xs) in absurd (omega (arith, is.1))
same_rise (x ∷ xs) (y ∷ ys) up up' there back =
    let first = same_first x y xs ys up up' (there x (first_in x xs)) (back y (first_in y ys)) in
    let rest = same_rise xs ys (pairs_tail (λ a b. a < b) x xs up) (pairs_tail (λ a b. a < b) y ys up') (later_in x y xs ys first up there) (later_in y x ys xs (sym first) up' back) in
    λ i. first i ∷ rest i

-- so a group is determined by its parts
same_group : (g h : PlainGroup) → g.parts ≡ h.parts → IsGroup g → IsGroup h → g ≡ h
same_group g h parts is is' =
    let there : (v : ℕ) → Contains g.vars v → Contains h.vars v = λ v inside. (is'.union v).1 (subst (Any (λ (part : Part). Contains part.scope v)) parts ((is.union v).0 inside)) in
    let back : (v : ℕ) → Contains h.vars v → Contains g.vars v = λ v inside. (is.union v).1 (subst (Any (λ (part : Part). Contains part.scope v)) (sym parts) ((is'.union v).0 inside)) in
    let vars = same_rise g.vars h.vars (AllPairs-from_increasing g.vars is.rising) (AllPairs-from_increasing h.vars is'.rising) there back in
    λ i. record { vars = vars i; parts = parts i }

-- the parts of each group
abbrev parts_of_each : List PlainGroup → List (List Part)
parts_of_each groups = map (λ (group : PlainGroup). group.parts) groups

same_groups : (groups others : List PlainGroup) → parts_of_each groups ≡ parts_of_each others → All IsGroup groups → All IsGroup others → groups ≡ others
same_groups [] [] same all all' = refl
same_groups [] (other ∷ others) same all all' = cc
same_groups (group ∷ groups) [] same all all' = cc
same_groups (group ∷ groups) (other ∷ others) same all all' =
    let parts : group.parts ≡ other.parts = cc in
    let left : parts_of_each groups ≡ parts_of_each others = cc in
    let first = same_group group other parts (All-head IsGroup group groups all) (All-head IsGroup other others all') in
    let rest = same_groups groups others left (All-tail IsGroup group groups all) (All-tail IsGroup other others all') in
    λ i. first i ∷ rest i

-- a draft has one problem
pub one_problem : {draft : PlainDraft} {p q : PlainProblem} → IsOf draft p → IsOf draft q → p ≡ q
one_problem {p = p} {q = q} x y =
    let names = x.names ∙ sym y.names in
    let domains = x.domains ∙ sym y.domains in
    let constraints = x.constraints ∙ sym y.constraints in
    let objective = x.objective ∙ sym y.objective in
    let groups = same_groups p.groups q.groups (x.groups ∙ sym y.groups) x.composed y.composed in
    λ i. record { names = names i; domains = domains i; constraints = constraints i; groups = groups i; objective = objective i }

-- the draft that a problem shows
abbrev shown : PlainProblem → Bool → PlainDraft
shown p fresh = record { names = p.names; domains = p.domains; constraints = p.constraints; groups = parts_of_each p.groups; objective = p.objective; fresh = fresh }

-- the problem of a valid draft is valid
pub problem_valid : {draft : PlainDraft} {p : PlainProblem} → IsValidDraft draft → IsOf draft p → IsValid p
problem_valid {draft = draft} {p = p} valid is = record {
  named = there.named;
  variables = there.variables;
  names = there.names;
  domains = there.domains;
  few = there.few;
  constraints = there.constraints;
  objective = there.objective;
  few_groups = subst (λ n. n ≤ most_groups) (length-map p.groups (λ (group : PlainGroup). group.parts)) there.few_groups;
  groups = is.composed;
  parts = subst (HaveParts p.constraints p.objective) (flat_map-map (λ parts. parts) (λ (group : PlainGroup). group.parts) p.groups) there.parts;
}
  where
    same : draft ≡ shown p draft.fresh
    same = λ i. record { names = sym is.names i; domains = sym is.domains i; constraints = sym is.constraints i; groups = sym is.groups i; objective = sym is.objective i; fresh = draft.fresh }

    there : IsValidDraft (shown p draft.fresh)
    there = subst IsValidDraft same valid
