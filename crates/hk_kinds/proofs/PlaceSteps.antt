-- The steps that are taken from sorted rows one after the other, and the places that are noted for them.
use Rattle.std.proofs.Common.{◌≡◌, ℕ, ◌+◌, ◌-◌, ◌<◌, ◌≤◌, ◌⊎◌, inl, inr, List, [], ◌∷◌, ◌++◌, length, get_or, set, take, map, reverse, arith, ap, sym, ◌∙◌, subst}
use Rattle.std.proofs.lemmas.Bool.{cases_eq}
use Rattle.std.proofs.lemmas.List.{get_or_default, get_or_append_left, get_or-set_same, get_or-set_other, get_or-map, length-map, length-set, length-append, length-take, take_more, take_all, reverse-append, length-reverse}
use Rattle.std.proofs.lemmas.List.Sorted.{Contains-permutation, IsPermutation-reverse, IsPermutation-sym}
use Rattle.std.specs.List.{Contains}
use Rattle.std.specs.declared.cmp.Ordering.TheVariants.{Less}
use Rattle.hk_base.specs.Lists.{IsFrontOf}
use Rattle.hk_kinds.specs.Distinct.{insert_state, distinct_states, Ascends, IsPlacedAt, IsPlaced}
use Rattle.hk_kinds.specs.inside.Keys.{IsLast, IsNumbered, IsSorting, picked_at}
use Rattle.hk_kinds.specs.Orders.{state_order}
use Rattle.hk_kinds.specs.declared.properties.Prop.{Prop}
use Rattle.hk_kinds.proofs.DistinctLaws.{IsIn, in_at, in_from_contains, contains_from_in, distinct_ascends, same_distinct, length_distinct}
use Rattle.hk_kinds.proofs.LastStates.{last_of}

-- the rows that are picked by these numbers
abbrev picked : List (List Prop) → List ℕ → List (List Prop)
picked rows numbers = map (λ number. get_or rows number []) numbers

-- what is reached once so many of the sorted rows are taken
pub record TakenUpTo (rows : List (List Prop)) (numbers : List ℕ) (i : ℕ) (steps : List (List Prop)) (places : List ℕ) : Type 0 where
  pub are : steps ≡ distinct_states (reverse (take i (picked rows numbers)))
  pub last : 0 < i → IsLast (picked_at rows numbers (i - 1)) steps
  pub long : length places ≡ length rows
  pub each : (k : ℕ) → k < i → IsPlacedAt rows steps places (get_or numbers k 0)

module _ (rows : List (List Prop)) (numbers : List ℕ) (i : ℕ) (steps : List (List Prop)) (places : List ℕ) (sorting : IsSorting rows numbers) (taken : TakenUpTo rows numbers i steps places) where
  -- the steps ascend
  pub taken_ascend : Ascends steps
  taken_ascend = subst Ascends (sym taken.are) (distinct_ascends (reverse (take i (picked rows numbers))))

  -- there are no more steps than rows that were taken
  pub taken_few : length steps ≤ i
  taken_few =
      let e : length steps ≡ length (distinct_states (reverse (take i (picked rows numbers)))) = ap length taken.are in
      omega (arith, length_distinct (reverse (take i (picked rows numbers))), length-reverse (take i (picked rows numbers)), length-take i (picked rows numbers))

  -- the next row isn't less than the last step
  pub taken_after : i < length numbers → 0 < length steps → state_order (picked_at rows numbers i) (last_of steps) ≡ Less → ⊥
  taken_after lt some less =
      let begun : 0 < i = omega (arith, taken_few) in
      let last : IsLast (picked_at rows numbers (i - 1)) steps = taken.last begun in
      let e : i - 1 + 1 ≡ i = omega arith in
      let before : state_order (picked_at rows numbers (i - 1 + 1)) (picked_at rows numbers (i - 1)) ≡ state_order (picked_at rows numbers i) (last_of steps) = ap (λ n. state_order (picked_at rows numbers n) (picked_at rows numbers (i - 1))) e ∙ ap (state_order (picked_at rows numbers i)) (sym last.same) in
      sorting.sorted (i - 1) (omega arith) (before ∙ less)

-- the row that a number picks
picked_is : (rows : List (List Prop)) (numbers : List ℕ) (k : ℕ) → k < length numbers → get_or (picked rows numbers) k [] ≡ picked_at rows numbers k
picked_is rows numbers k lt = get_or-map (λ number. get_or rows number []) numbers k 0 [] lt

-- one row more is picked
pile_more : (rows : List (List Prop)) (numbers : List ℕ) (i : ℕ) → i < length numbers → reverse (take (i + 1) (picked rows numbers)) ≡ picked_at rows numbers i ∷ reverse (take i (picked rows numbers))
pile_more rows numbers i lt =
    let long : length (picked rows numbers) ≡ length numbers = length-map numbers (λ number. get_or rows number []) in
    let more : take (i + 1) (picked rows numbers) ≡ take i (picked rows numbers) ++ get_or (picked rows numbers) i [] ∷ [] = take_more (picked rows numbers) i [] (omega arith) in
    ap reverse more ∙ (reverse-append (take i (picked rows numbers)) (get_or (picked rows numbers) i [] ∷ []) ∙ ap (λ row. row ∷ reverse (take i (picked rows numbers))) (picked_is rows numbers i lt))

-- the place that was just noted
placed_here : (rows new : List (List Prop)) (places : List ℕ) (number place : ℕ) → number < length places → place ≡ length new - 1 → IsLast (get_or rows number []) new → IsPlacedAt rows new (set places number place) number
placed_here rows new places number place lt is last =
    let read : get_or (set places number place) number 0 ≡ place = get_or-set_same places number place 0 lt in
    record {
      within = omega (arith, last.some);
      same = ap (λ n. get_or new n []) (read ∙ is) ∙ last.same;
    }

-- a place that was noted before
placed_still : (rows steps new : List (List Prop)) (places : List ℕ) (number place other : ℕ) → IsFrontOf steps new → (other ≡ number → ⊥) → IsPlacedAt rows steps places other → IsPlacedAt rows new (set places number place) other
placed_still rows steps new places number place other front apart old =
    let read : get_or (set places number place) other 0 ≡ get_or places other 0 = get_or-set_other places number other place 0 apart in
    let long : length new ≡ length steps + length front.rest = ap length front.parts ∙ length-append steps front.rest in
    record {
      within = omega (arith, old.within);
      same = ap (λ n. get_or new n []) read ∙ (ap (λ states. get_or states (get_or places other 0) []) front.parts ∙ (get_or_append_left steps front.rest [] (get_or places other 0) old.within ∙ old.same));
    }

-- a number that isn't that of the row stands before it
before_it : (numbers : List ℕ) (k i number : ℕ) → k < i + 1 → number ≡ get_or numbers i 0 → (get_or numbers k 0 ≡ number → ⊥) → k < i
before_it numbers k i number below is apart = elim (cases_eq k i) [ inl same ↦ absurd (apart (ap (λ n. get_or numbers n 0) same ∙ sym is)) | inr other ↦ omega arith ]

-- one row more is taken
pub taken_more : (rows : List (List Prop)) (numbers : List ℕ) (i : ℕ) (steps new : List (List Prop)) (places : List ℕ) (number place : ℕ) → IsSorting rows numbers → TakenUpTo rows numbers i steps places → i < length numbers → number ≡ get_or numbers i 0 → new ≡ insert_state (get_or rows number []) steps → IsLast (get_or rows number []) new → IsFrontOf steps new → place ≡ length new - 1 → TakenUpTo rows numbers (i + 1) new (set places number place)
taken_more rows numbers i steps new places number place sorting taken lt is inserted last front at =
    let row : get_or rows number [] ≡ picked_at rows numbers i = ap (λ n. get_or rows n []) is in
    let within : number < length places = omega (arith, sorting.below i lt, taken.long) in
    let e : i + 1 - 1 ≡ i = omega arith in
    let each : (k : ℕ) → k < i + 1 → IsPlacedAt rows new (set places number place) (get_or numbers k 0) = λ k below. each_more k below (cases_eq (get_or numbers k 0) number) in
    record {
      are = inserted ∙ (ap (λ s. insert_state s steps) row ∙ (ap (insert_state (picked_at rows numbers i)) taken.are ∙ ap distinct_states (sym (pile_more rows numbers i lt))));
      last = λ _. subst (λ s. IsLast s new) (row ∙ ap (picked_at rows numbers) (sym e)) last;
      long = length-set places number place ∙ taken.long;
      each = each;
    }
  where
    each_more : (k : ℕ) → k < i + 1 → (get_or numbers k 0 ≡ number) ⊎ (get_or numbers k 0 ≡ number → ⊥) → IsPlacedAt rows new (set places number place) (get_or numbers k 0)
    each_more k below (inl same) = subst (IsPlacedAt rows new (set places number place)) (sym same) (placed_here rows new places number place (omega (arith, sorting.below i lt, taken.long)) at last)
    each_more k below (inr apart) =
        placed_still rows steps new places number place (get_or numbers k 0) front apart (taken.each k (before_it numbers k i number below is apart))

-- ---- once all are taken

in_reverse : (a : List Prop) (states : List (List Prop)) → IsIn a (reverse states) → IsIn a states
in_reverse a states m = in_from_contains a states (Contains-permutation (reverse states) states a (IsPermutation-sym states (reverse states) (IsPermutation-reverse states)) (contains_from_in a (reverse states) m))

reverse_in : (a : List Prop) (states : List (List Prop)) → IsIn a states → IsIn a (reverse states)
reverse_in a states m = in_from_contains a (reverse states) (Contains-permutation states (reverse states) a (IsPermutation-reverse states) (contains_from_in a states m))

picked_in : (rows : List (List Prop)) (numbers : List ℕ) (a : List Prop) → IsSorting rows numbers → Contains (picked rows numbers) a → IsIn a rows
picked_in rows numbers a sorting (k, lt, same) =
    let long : length (picked rows numbers) ≡ length numbers = length-map numbers (λ number. get_or rows number []) in
    let within : k < length numbers = omega arith in
    let is : picked_at rows numbers k ≡ a = sym (picked_is rows numbers k within) ∙ (get_or_default (picked rows numbers) k [] a lt ∙ same) in
    subst (λ s. IsIn s rows) is (in_at rows (get_or numbers k 0) (sorting.below k within))

in_picked : (rows : List (List Prop)) (numbers : List ℕ) (a : List Prop) → IsSorting rows numbers → Contains rows a → IsIn a (picked rows numbers)
in_picked rows numbers a sorting (number, lt, same) =
    let long : length (picked rows numbers) ≡ length numbers = length-map numbers (λ number. get_or rows number []) in
    let at : IsNumbered numbers number = sorting.all number lt in
    let is : get_or (picked rows numbers) at.place [] ≡ a = picked_is rows numbers at.place at.within ∙ (ap (λ n. get_or rows n []) at.same ∙ (get_or_default rows number [] a lt ∙ same)) in
    subst (λ s. IsIn s (picked rows numbers)) is (in_at (picked rows numbers) at.place (omega (arith, at.within)))

-- the steps are the distinct states of all rows
pub taken_all : (rows : List (List Prop)) (numbers : List ℕ) (i : ℕ) (steps : List (List Prop)) (places : List ℕ) → IsSorting rows numbers → TakenUpTo rows numbers i steps places → length numbers ≤ i → steps ≡ distinct_states rows
taken_all rows numbers i steps places sorting taken le =
    let long : length (picked rows numbers) ≡ length numbers = length-map numbers (λ number. get_or rows number []) in
    let all : take i (picked rows numbers) ≡ picked rows numbers = take_all i (picked rows numbers) (omega arith) in
    let same : distinct_states (reverse (picked rows numbers)) ≡ distinct_states rows = same_distinct _ _ (λ a m. picked_in rows numbers a sorting (contains_from_in a _ (in_reverse a _ m))) (λ a m. reverse_in a _ (in_picked rows numbers a sorting (contains_from_in a _ m))) in
    taken.are ∙ (ap (λ states. distinct_states (reverse states)) all ∙ same)

-- each row has its place
pub taken_places : (rows : List (List Prop)) (numbers : List ℕ) (i : ℕ) (steps : List (List Prop)) (places : List ℕ) → IsSorting rows numbers → TakenUpTo rows numbers i steps places → length numbers ≤ i → IsPlaced rows steps places
taken_places rows numbers i steps places sorting taken le = record {
  long = taken.long;
  each = λ number lt. (let at : IsNumbered numbers number = sorting.all number lt in subst (IsPlacedAt rows steps places) at.same (taken.each at.place (omega (arith, at.within))));
}
