-- The names `a0` to `a99`: each is free, and no two are equal.
use Rattle.std.proofs.Common.{◌≡◌, ℕ, ◌+◌, ◌-◌, ◌*◌, ◌/◌, ◌%◌, ◌<◌, nat_lt, nat_eq, if◌then◌else◌, Bool, true, false, not, ◌&&◌, ◌||◌, List, [], ◌∷◌, bytes_eq, arith, refl, sym, subst, subst₂, ap, ◌∙◌, ltb-true, le-leb, ne_eqb}
use Rattle.std.proofs.lemmas.Slice.Eq.{bytes_eq-Decides}
use Rattle.hk_spec.specs.Library.{lag_name}
use Rattle.hk_spec.specs.Names.{starts_word, goes_on_word, is_free_name}

-- a digit goes on a word, and is no `n`
digit_goes_on : (d : ℕ) → d < 10 → goes_on_word (48 + d) ≡ true
digit_goes_on d small = or_true (starts_word (48 + d)) (and_true (le-leb 48 (48 + d) (omega arith)) (le-leb (48 + d) 57 (omega arith)))
  where
    or_true : (a : Bool) {b : Bool} → b ≡ true → a || b ≡ true
    or_true true h = refl
    or_true false h = h

    and_true : {a b : Bool} → a ≡ true → b ≡ true → a && b ≡ true
    and_true {a} {b} h k = subst₂ (λ x y. x && y ≡ true) (sym h) (sym k) refl

no_letter : (d : ℕ) → d < 10 → nat_eq (48 + d) 110 ≡ false
no_letter d small = ne_eqb (48 + d) 110 (λ same. absurd (omega (arith, same)))

-- a name of `a` and one or two bytes that go on a word, the first no `n`, is free
free_one : (x : ℕ) → goes_on_word x ≡ true → nat_eq x 110 ≡ false → is_free_name (97 ∷ x ∷ []) ≡ true
free_one x goes other = subst₂ (λ g e. ((g && true) && true) && not ((e && false) || false) ≡ true) (sym goes) (sym other) refl

free_two : (x y : ℕ) → goes_on_word x ≡ true → goes_on_word y ≡ true → nat_eq x 110 ≡ false → is_free_name (97 ∷ x ∷ y ∷ []) ≡ true
free_two x y first second other =
    subst (λ e. ((goes_on_word x && (goes_on_word y && true)) && true) && not ((e && (nat_eq y 100 && true)) || false) ≡ true) (sym other)
    (subst₂ (λ g h. ((g && (h && true)) && true) && not ((false && (nat_eq y 100 && true)) || false) ≡ true) (sym first) (sym second) refl)

-- each of the names is free
pub lag_name_free : (place : ℕ) → place < 100 → is_free_name (lag_name place) ≡ true
lag_name_free place small = by (nat_lt place 10) refl
  where
    by : (b : Bool) → nat_lt place 10 ≡ b → is_free_name (97 ∷ (if b then (48 + place) ∷ [] else (48 + place / 10) ∷ (48 + place % 10) ∷ [])) ≡ true
    by true below = free_one (48 + place) (digit_goes_on place (ltb-true place 10 below)) (no_letter place (ltb-true place 10 below))
    by false above = free_two (48 + place / 10) (48 + place % 10) (digit_goes_on (place / 10) (omega arith)) (digit_goes_on (place % 10) (omega arith)) (no_letter (place / 10) (omega arith))

-- the number that a decimal writes
number_of : List ℕ → ℕ
number_of (letter ∷ ones ∷ []) = ones - 48
number_of (letter ∷ tens ∷ ones ∷ []) = (tens - 48) * 10 + (ones - 48)
number_of _ = 0

number_of_lag : (place : ℕ) → number_of (lag_name place) ≡ place
unfolding number_of
number_of_lag place = by (nat_lt place 10)
  where
    by : (b : Bool) → number_of (97 ∷ (if b then (48 + place) ∷ [] else (48 + place / 10) ∷ (48 + place % 10) ∷ [])) ≡ place
    by true = omega arith
    by false = omega arith

-- two of the names are equal only at equal places
pub lag_names_differ : (a b : ℕ) → a < b → bytes_eq (lag_name a) (lag_name b) ≡ false
lag_names_differ a b less = by (bytes_eq (lag_name a) (lag_name b)) refl
  where
    by : (answer : Bool) → bytes_eq (lag_name a) (lag_name b) ≡ answer → answer ≡ false
    by false is = refl
    by true is =
        let same : a ≡ b = sym (number_of_lag a) ∙ (ap number_of ((bytes_eq-Decides (lag_name a) (lag_name b)).0 is) ∙ number_of_lag b) in
        absurd (omega arith)
