-- The places of variables in a scope, along a rising list of variables that has all of the scope's.
use Rattle.std.proofs.Common.{◌≡◌, ℕ, zero, suc, ◌+◌, ◌-◌, ◌<◌, ◌≤◌, ◌==◌, false, List, [], ◌∷◌, length, drop, get_or, slice_index, Contains, None, Some, Ok, Err, arith, ap, refl, sym, ◌∙◌, subst, ◌⊎◌, inl, inr}
use Rattle.std.specs.List.{position_or_len}
use Rattle.std.specs.List.Sorted.{IsBinarySearchResult, IsStrictlyIncreasing}
use Rattle.std.specs.Ordering.{nat_cmp}
use Rattle.std.proofs.lemmas.Bool.{cases_lt, eq-eqb}
use Rattle.std.proofs.lemmas.Grind.{common_steps}
use Rattle.std.proofs.lemmas.List.{get_or-drop, length-drop}
use Rattle.std.proofs.lemmas.List.Kept.{AllPairs-from_increasing}
use Rattle.std.proofs.lemmas.List.Sorted.{searched}
use Rattle.std.proofs.lemmas.List.Sums.{position_or_len_is}
use Rattle.hk_group.specs.Groups.{place_in}

-- the numbers rise from this one on
pub data Rises : ℕ → List ℕ → Type 0 where
  none_left : {low : ℕ} → Rises low []
  rising : {low x : ℕ} {xs : List ℕ} → low ≤ x → Rises (suc x) xs → Rises low (x ∷ xs)

increasing_tail : (x : ℕ) (xs : List ℕ) → IsStrictlyIncreasing (x ∷ xs) → IsStrictlyIncreasing xs
increasing_tail x xs h k within = let next : suc k + 1 ≡ suc (k + 1) = omega arith in subst (λ n. slice_index xs k < slice_index (x ∷ xs) n) next (h (suc k) (omega arith))

pub rises_from : (low : ℕ) (xs : List ℕ) → ((k : ℕ) → 0 < length xs → low ≤ slice_index xs 0) → IsStrictlyIncreasing xs → Rises low xs
rises_from low [] least h = none_left
rises_from low (x ∷ xs) least h = rising (least 0 (omega arith)) (rises_from (suc x) xs (λ k some. h 0 (omega arith)) (increasing_tail x xs h))

member_cases : (x : ℕ) (xs : List ℕ) (v : ℕ) → Contains (x ∷ xs) v → (v ≡ x) ⊎ Contains xs v
member_cases x xs v (zero, within, is) = inl (sym is)
member_cases x xs v (suc k, within, is) = inr (k, omega arith, is)

-- a number of a rising list is not below the list's least
least_of : {low : ℕ} {xs : List ℕ} (v : ℕ) → Rises low xs → Contains xs v → low ≤ v
least_of v none_left (k, within, is) = absurd (omega arith)
least_of v (rising {x = x} {xs = xs} le more) h =
    elim (member_cases x xs v h) [
      | inl same ↦ omega arith
      | inr later ↦ let above : suc x ≤ v = least_of v more later in omega arith
    ]

not_equal : (a b : ℕ) → (a ≡ b → ⊥) → (a == b) ≡ false
not_equal a b h = grind arith

-- the place is that of the first that is the variable
pub place_found : (scope : List ℕ) (x k : ℕ) → k < length scope → ((j : ℕ) → j < k → get_or scope j 0 ≡ x → ⊥) → get_or scope k 0 ≡ x → place_in scope x ≡ Some k
place_found scope x k within before is =
    let at : position_or_len (λ other. other == x) scope ≡ k = position_or_len_is (λ other. other == x) scope k 0 (omega arith) (λ j lt. not_equal _ _ (before j lt)) (λ _. eq-eqb _ _ is) in
    grind (arith, common_steps)

-- where no number of the scope is the variable, it has no place
pub place_missing : (scope : List ℕ) (x : ℕ) → ((j : ℕ) → j < length scope → get_or scope j 0 ≡ x → ⊥) → place_in scope x ≡ None
place_missing scope x none =
    let at : position_or_len (λ other. other == x) scope ≡ length scope = position_or_len_is (λ other. other == x) scope (length scope) 0 (omega arith) (λ j lt. not_equal _ _ (none j lt)) (λ lt. absurd (omega arith)) in
    grind (arith, common_steps)

rises_far : (scope : List ℕ) → IsStrictlyIncreasing scope → (i j : ℕ) → i < j → j < length scope → get_or scope i 0 < get_or scope j 0
rises_far scope rises i j lt within = AllPairs-from_increasing scope rises i j 0 lt within

rises_evenly : (scope : List ℕ) → IsStrictlyIncreasing scope → (i j : ℕ) → i ≤ j → j < length scope → get_or scope i 0 ≤ get_or scope j 0
rises_evenly scope rises i j le within =
    elim (cases_lt i j) [
      | inl lt ↦ let below = rises_far scope rises i j lt within in omega arith
      | inr ge ↦ let same : i ≡ j = omega arith in let equal : get_or scope i 0 ≡ get_or scope j 0 = ap (λ n. get_or scope n 0) same in omega arith
    ]

-- what a search by halves finds in a rises scope is the place of the variable
pub place_searched : (scope : List ℕ) (x place : ℕ) → IsStrictlyIncreasing scope → IsBinarySearchResult (λ y. nat_cmp y x) scope (Ok place) → Some place ≡ place_in scope x
place_searched scope x place rises found =
    let at = searched scope x (Ok place) found (rises_evenly scope rises) in
    sym (place_found scope x place at.0 (λ j lt is. let below = rises_far scope rises j place lt at.0 in omega (arith, at.1)) at.1)

-- where it finds none, the variable has no place
pub missing_searched : (scope : List ℕ) (x gap : ℕ) → IsStrictlyIncreasing scope → IsBinarySearchResult (λ y. nat_cmp y x) scope (Err gap) → None ≡ place_in scope x
missing_searched scope x gap rises missed =
    let at = searched scope x (Err gap) missed (rises_evenly scope rises) in
    sym (place_missing scope x (λ j lt is. elim (cases_lt j gap) [
      | inl before ↦ let below = at.1 j before in omega arith
      | inr from ↦ let above = at.2 j from lt in omega arith
    ]))

pub head_at : (n : ℕ) (xs : List ℕ) (x : ℕ) (rest : List ℕ) → drop n xs ≡ x ∷ rest → slice_index xs n ≡ x
head_at zero [] x rest h = cc
head_at zero (y ∷ ys) x rest h = cc
head_at (suc n) [] x rest h = cc
head_at (suc n) (y ∷ ys) x rest h = head_at n ys x rest h

pub tail_at : (n : ℕ) (xs : List ℕ) (x : ℕ) (rest : List ℕ) → drop n xs ≡ x ∷ rest → drop (n + 1) xs ≡ rest
tail_at zero [] x rest h = cc
tail_at zero (y ∷ ys) x rest h = cc
tail_at (suc n) [] x rest h = cc
tail_at (suc n) (y ∷ ys) x rest h = let next : suc n + 1 ≡ suc (n + 1) = omega arith in ap (λ m. drop m (y ∷ ys)) next ∙ tail_at n ys x rest h

pub within_at : (n : ℕ) (xs : List ℕ) (x : ℕ) (rest : List ℕ) → drop n xs ≡ x ∷ rest → n < length xs
within_at n xs x rest h = let long : length (drop n xs) ≡ suc (length rest) = ap length h in omega (arith, length-drop n xs)

-- the variables go along the scope from a place on: each either has no place there or has the next one
pub data Along (scope : List ℕ) : ℕ → List ℕ → Type 0 where
  finished : {k : ℕ} → drop k scope ≡ [] → Along scope k []
  outside : {k x : ℕ} {vars : List ℕ} → place_in scope x ≡ None → Along scope k vars → Along scope k (x ∷ vars)
  inside : {k x : ℕ} {vars rest : List ℕ} → place_in scope x ≡ Some k → drop k scope ≡ x ∷ rest → Along scope (k + 1) vars → Along scope k (x ∷ vars)

-- what is known where variables and the rest of a scope go on: the variables are at least `low`, and the scope's
-- earlier ones are below it
pub record Reached (scope : List ℕ) (k low : ℕ) (rest vars : List ℕ) : Type 0 where
  pub is : drop k scope ≡ rest
  pub within : k ≤ length scope
  pub before : (j : ℕ) → j < k → get_or scope j 0 < low
  pub scope_rises : Rises low rest
  pub vars_rise : Rises low vars
  pub all : (v : ℕ) → Contains rest v → Contains vars v

tail_rises : {low x : ℕ} {xs : List ℕ} → Rises low (x ∷ xs) → Rises (suc x) xs
tail_rises (rising le more) = more

head_least : {low x : ℕ} {xs : List ℕ} → Rises low (x ∷ xs) → low ≤ x
head_least (rising le more) = le

raised : {low x : ℕ} {xs : List ℕ} (high : ℕ) → high ≤ x → Rises low (x ∷ xs) → Rises high (x ∷ xs)
raised high le (rising _ more) = rising le more

first_is : (x : ℕ) (xs : List ℕ) → Contains (x ∷ xs) x
first_is x xs = (0, omega arith, refl)

later_is : (x : ℕ) (xs : List ℕ) (v : ℕ) → Contains xs v → Contains (x ∷ xs) v
later_is x xs v (k, within, is) = (suc k, omega arith, is)

-- a number above the head is among the later ones
among_later : (x : ℕ) (xs : List ℕ) (v : ℕ) → x < v → Contains (x ∷ xs) v → Contains xs v
among_later x xs v lt h =
    elim (member_cases x xs v h) [
      | inl same ↦ absurd (omega arith)
      | inr later ↦ later
    ]

-- the rest of a scope has the numbers from its place on
at_rest : (scope : List ℕ) (k j : ℕ) (rest : List ℕ) → drop k scope ≡ rest → k ≤ j → j < length scope → Contains rest (get_or scope j 0)
at_rest scope k j rest is le lt =
    let offset : k + (j - k) ≡ j = omega arith in
    let there : get_or (drop k scope) (j - k) (get_or scope j 0) ≡ get_or scope j 0 = get_or-drop k scope (j - k) _ ∙ (ap (λ n. get_or scope n (get_or scope j 0)) offset ∙ same_default scope j lt) in
    subst (λ l. Contains l (get_or scope j 0)) is (j - k, omega (arith, length-drop k scope), there)
  where
    same_default : (xs : List ℕ) (i : ℕ) → i < length xs → get_or xs i (get_or xs i 0) ≡ get_or xs i 0
    same_default [] i h = absurd (omega arith)
    same_default (y ∷ ys) zero h = refl
    same_default (y ∷ ys) (suc i) h = same_default ys i (omega arith)

module _ (scope : List ℕ) (k low x : ℕ) (vars : List ℕ) where
  -- no scope is left: the variable has no place, and the others are reached
  ended_missing : Reached scope k low [] (x ∷ vars) → place_in scope x ≡ None
  ended_missing r =
      let whole : length scope ≤ k = omega (arith, length-drop k scope, ap length r.is) in
      let le : low ≤ x = head_least r.vars_rise in
      place_missing scope x (λ j lt same. let below : get_or scope j 0 < low = r.before j (omega arith) in omega arith)

  ended_on : Reached scope k low [] (x ∷ vars) → Reached scope k (suc x) [] vars
  ended_on r = record {
    is = r.is;
    within = r.within;
    before = λ j lt. let below : get_or scope j 0 < low = r.before j lt in omega (arith, head_least r.vars_rise);
    scope_rises = none_left;
    vars_rise = tail_rises r.vars_rise;
    all = λ v h. absurd (omega (arith, h.1));
  }

  module _ (y : ℕ) (ys : List ℕ) (r : Reached scope k low (y ∷ ys) (x ∷ vars)) where
    -- the next of the scope is the variable
    stands_found : y ≡ x → place_in scope x ≡ Some k
    stands_found same = place_found scope x k (within_at k scope y ys r.is) (λ j lt is. let below : get_or scope j 0 < low = r.before j lt in omega (arith, head_least r.vars_rise)) (head_at k scope y ys r.is ∙ same)

    stands_before : y ≡ x → (j : ℕ) → j < k + 1 → get_or scope j 0 < suc x
    stands_before same j lt =
        elim (cases_lt j k) [
          | inl before ↦ let below : get_or scope j 0 < low = r.before j before in omega (arith, head_least r.vars_rise)
          | inr here ↦ let e : j ≡ k = omega arith in let there : get_or scope j 0 ≡ y = ap (λ n. get_or scope n 0) e ∙ head_at k scope y ys r.is in omega arith
        ]

    stands_on : y ≡ x → Reached scope (k + 1) (suc x) ys vars
    stands_on same = record {
      is = tail_at k scope y ys r.is;
      within = let w : k < length scope = within_at k scope y ys r.is in omega arith;
      before = stands_before same;
      scope_rises = subst (λ z. Rises (suc z) ys) same (tail_rises r.scope_rises);
      vars_rise = tail_rises r.vars_rise;
      all = λ v h. let above : suc y ≤ v = least_of v (tail_rises r.scope_rises) h in among_later x vars v (omega arith) (r.all v (later_is y ys v h));
    }

    -- the next of the scope comes later
    passes_other : suc x ≤ y → (j : ℕ) → j < length scope → get_or scope j 0 ≡ x → ⊥
    passes_other above j lt is =
        elim (cases_lt j k) [
          | inl before ↦ let below : get_or scope j 0 < low = r.before j before in omega (arith, head_least r.vars_rise)
          | inr from ↦ let high : suc x ≤ get_or scope j 0 = least_of _ (raised (suc x) above r.scope_rises) (at_rest scope k j (y ∷ ys) r.is from lt) in omega arith
        ]

    passes_on : suc x ≤ y → Reached scope k (suc x) (y ∷ ys) vars
    passes_on above = record {
      is = r.is;
      within = r.within;
      before = λ j lt. let below : get_or scope j 0 < low = r.before j lt in omega (arith, head_least r.vars_rise);
      scope_rises = raised (suc x) above r.scope_rises;
      vars_rise = tail_rises r.vars_rise;
      all = λ v h. let least : suc x ≤ v = least_of v (raised (suc x) above r.scope_rises) h in among_later x vars v (omega arith) (r.all v h);
    }

no_member : {v : ℕ} → Contains {X = ℕ} [] v → ⊥
no_member (n, within, is) = omega arith

-- variables that are reached go along the scope
pub along : (scope : List ℕ) (k low : ℕ) (rest vars : List ℕ) → Reached scope k low rest vars → Along scope k vars
along scope k low [] [] r = finished r.is
along scope k low (y ∷ ys) [] r = absurd (no_member (r.all y (first_is y ys)))
along scope k low [] (x ∷ vars) r = outside (ended_missing scope k low x vars r) (along scope k (suc x) [] vars (ended_on scope k low x vars r))
along scope k low (y ∷ ys) (x ∷ vars) r =
    elim (member_cases x vars y (r.all y (first_is y ys))) [
      | inl same ↦ inside (stands_found scope k low x vars y ys r same) (r.is ∙ ap (λ z. z ∷ ys) same) (along scope (k + 1) (suc x) ys vars (stands_on scope k low x vars y ys r same))
      | inr later ↦ let above : suc x ≤ y = least_of y (tail_rises r.vars_rise) later in outside (place_missing scope x (passes_other scope k low x vars y ys r above)) (along scope k (suc x) (y ∷ ys) vars (passes_on scope k low x vars y ys r above))
    ]

-- a rising scope goes along a rising list that has all of its variables
pub along_whole : (scope vars : List ℕ) → IsStrictlyIncreasing scope → IsStrictlyIncreasing vars → ((v : ℕ) → Contains scope v → Contains vars v) → Along scope 0 vars
along_whole scope vars h k all = along scope 0 0 scope vars (record {
  is = refl;
  within = omega arith;
  before = λ j lt. absurd (omega arith);
  scope_rises = rises_from 0 scope (λ _ _. omega arith) h;
  vars_rise = rises_from 0 vars (λ _ _. omega arith) k;
  all = all;
})
