-- Names that are listed, and whether one stands twice.
use Rattle.std.proofs.Common.{◌≡◌, ◌<◌, ◌+◌, ℕ, map, take, drop, get_or, zero, suc, Bool, true, false, ◌||◌, List, [], ◌∷◌, ◌++◌, length, Contains, Any, Bor, refl, sym, ap, ◌∙◌, subst, arith, inl, inr}
use Rattle.std.specs.List.{list_any}
use Rattle.std.specs.Prelude.{if◌then◌else◌}
use Rattle.std.specs.Str.{bytes_eq}
use Rattle.std.proofs.lemmas.Bool.{both_ways, false_from_ne_true, and_parts, and_from, and_left, and_right, or_left, or_right, or_parts, or_from, or_cases, not-true, not_from_true, not_from_false, cond-false}
use Rattle.std.proofs.lemmas.List.{drop_more, take_more, take-append-drop, map-append}
use Rattle.std.proofs.lemmas.List.Folds.{list_any-append, Any-from_list_any, list_any-from_Any}
use Rattle.std.proofs.lemmas.Map.Views.{Contains-from_any}
use Rattle.std.proofs.lemmas.Slice.Eq.{bytes_eq-Decides}
use Rattle.hk_spec.specs.Names.{are_distinct, reserved_words}

-- the text behind a reference
abbrev pub now_of : Bor (List ℕ) → List ℕ
now_of text = text.now

-- a text is equal to itself
pub bytes_eq_self : (a : List ℕ) → bytes_eq a a ≡ true
bytes_eq_self a = (bytes_eq-Decides a a).1 refl

-- where one differs from the other, the other differs from it
pub bytes_eq_turned : (a b : List ℕ) → bytes_eq a b ≡ false → bytes_eq b a ≡ false
bytes_eq_turned a b other = false_from_ne_true _ (λ same. both_ways _ other ((bytes_eq-Decides a b).1 (sym ((bytes_eq-Decides b a).0 same))))

-- the test finds a name that is listed
pub listed_found : (names : List (List ℕ)) (name : List ℕ) → list_any (bytes_eq name) names ≡ true → Contains names name
listed_found names name found = Contains-from_any (λ x y. (bytes_eq-Decides x y).0) name names found

-- a listed name is found by the test
pub found_listed : (names : List (List ℕ)) (name : List ℕ) → Contains names name → list_any (bytes_eq name) names ≡ true
found_listed [] name (k, within, at) = absurd (omega arith)
found_listed (first ∷ more) name (zero, within, at) = or_left _ _ ((bytes_eq-Decides name first).1 (sym at))
found_listed (first ∷ more) name (suc k, within, at) = or_right _ _ (found_listed more name (k, omega arith, at))

-- distinct names stay so with one more that is not among them
pub distinct_push : (names : List (List ℕ)) (name : List ℕ) → are_distinct names ≡ true → list_any (bytes_eq name) names ≡ false → are_distinct (names ++ name ∷ []) ≡ true
distinct_push [] name distinct new = refl
distinct_push (first ∷ more) name distinct new =
    let parts = and_parts _ _ distinct in
    let others = or_parts _ _ new in
    let unseen : list_any (bytes_eq first) (more ++ name ∷ []) ≡ false = list_any-append (bytes_eq first) more (name ∷ []) ∙ or_from _ _ (not-true _ parts.0) (or_from _ _ (bytes_eq_turned name first others.0) refl) in
    and_from _ _ (not_from_false _ unseen) (distinct_push more name parts.1 others.1)

-- names with one that stands among those before it are not distinct
pub distinct_twice : (names after : List (List ℕ)) (name : List ℕ) → list_any (bytes_eq name) names ≡ true → are_distinct (names ++ name ∷ after) ≡ false
distinct_twice [] after name found = absurd (both_ways _ refl found)
distinct_twice (first ∷ more) after name found = elim (or_cases _ _ found) [
  | inl here ↦ and_left _ _ (not_from_true _ (list_any-append (bytes_eq first) more (name ∷ after) ∙ or_right _ _ (or_left _ _ ((bytes_eq-Decides first name).1 (sym ((bytes_eq-Decides name first).0 here))))))
  | inr later ↦ and_right _ _ (distinct_twice more after name later)
]

-- the test over references is that over their texts
pub found_behind : (name : List ℕ) (seen : List (Bor (List ℕ))) → list_any (bytes_eq name) (map now_of seen) ≡ list_any (λ y. bytes_eq name y.now) seen
found_behind name [] = refl
found_behind name (y ∷ more) = ap (λ b. bytes_eq name y.now || b) (found_behind name more)

module _ (names : List (List ℕ)) (seen : List (Bor (List ℕ))) (place : ℕ) (are : map now_of seen ≡ take place names) (inside : place < length names) (name : Bor (List ℕ)) (is : get_or names place [] ≡ name.now) where
  -- a name among those seen stands twice
  pub seen_twice : list_any (λ y. bytes_eq name.now y.now) seen ≡ true → are_distinct names ≡ false
  seen_twice found =
      let among : list_any (bytes_eq (get_or names place [])) (take place names) ≡ true = subst (λ n. list_any (bytes_eq n) (take place names) ≡ true) (sym is) (subst (λ ns. list_any (bytes_eq name.now) ns ≡ true) are (found_behind name.now seen ∙ found)) in
      subst (λ ns. are_distinct ns ≡ false) (ap (λ ns. take place names ++ ns) (sym (drop_more names place [] inside)) ∙ take-append-drop place names) (distinct_twice (take place names) (drop (place + 1) names) (get_or names place []) among)

  -- one name more is seen
  pub seen_more : {now : List (Bor (List ℕ))} → now ≡ (if list_any (λ y. bytes_eq name.now y.now) seen then seen else seen ++ name ∷ []) → list_any (λ y. bytes_eq name.now y.now) seen ≡ false → are_distinct (take place names) ≡ true
      → (map now_of now ≡ take (place + 1) names) × (are_distinct (take (place + 1) names) ≡ true)
  seen_more kept new distinct =
      let last : take (place + 1) names ≡ take place names ++ name.now ∷ [] = take_more names place [] inside ∙ ap (λ n. take place names ++ n ∷ []) is in
      let fresh : list_any (bytes_eq name.now) (take place names) ≡ false = subst (λ ns. list_any (bytes_eq name.now) ns ≡ false) are (found_behind name.now seen ∙ new) in (
        ap (map now_of) (kept ∙ cond-false _ _ _ new) ∙ map-append now_of seen (name ∷ []) ∙ ap (λ ns. ns ++ name.now ∷ []) are ∙ sym last,
        subst (λ ns. are_distinct ns ≡ true) (sym last) (distinct_push (take place names) name.now distinct fresh),
      )

-- the test finds a reserved word among names, or there is none
pub reserved_found : (names : List (List ℕ)) → list_any (λ name. list_any (bytes_eq name) reserved_words) names ≡ true → Any (Contains reserved_words) names
reserved_found names found =
    let (k, name, within, at, is) = Any-from_list_any (λ name. list_any (bytes_eq name) reserved_words) names found in
    (k, name, within, at, listed_found reserved_words name is)

pub found_reserved : (names : List (List ℕ)) → Any (Contains reserved_words) names → list_any (λ name. list_any (bytes_eq name) reserved_words) names ≡ true
found_reserved names (k, name, within, at, is) =
    list_any-from_Any (λ name. list_any (bytes_eq name) reserved_words) names (k, name, within, at, found_listed reserved_words name is)

-- a test over a list is that over what is made of each element
pub any_of_map : {X Y : Type 0} (test : Y → Bool) (f : X → Y) (xs : List X) → list_any test (map f xs) ≡ list_any (λ x. test (f x)) xs
any_of_map test f [] = refl
any_of_map test f (x ∷ xs) = ap (λ b. test (f x) || b) (any_of_map test f xs)
