-- Sets made of lists of values: what they have, and how many values they have.
use Rattle.std.proofs.Common.{◌≡◌, ℕ, zero, suc, ◌+◌, ◌^◌, ◌<◌, ◌≤◌, eqb, not, Bool, true, false, cond, bit_or, List, [], ◌∷◌, length, get_or, set, refl, sym, ap, subst, inl, inr, arith}
use Rattle.std.specs.Int.{bit_at}
use Rattle.std.specs.List.{filter, range_with_len}
use Rattle.std.proofs.Math.Pow.{pow-lt}
use Rattle.std.proofs.lemmas.Bool.{cases_eq, cases_Bool, eqb-true, eqb-false, eq-eqb}
use Rattle.std.proofs.lemmas.Nat.{or_lt}
use Rattle.std.proofs.lemmas.Nat.Bits.{bit_at-lt, bit_at_or, bit_at-pow_same, bit_at-pow_other, bit_at-zero}
use Rattle.hk_base.specs.Sets.{Has}
use Rattle.hk_spec.specs.Meanings.{set_of}
use Rattle.hk_table.specs.Members.{Member, first, later}
use Rattle.hk_table.proofs.Members.{Member-range, Member-cases, Member-filter, Member-filtered, Member-members, Has-member, Member-ranged}
use Rattle.hk_text.specs.Sets.{members}
use Rattle.hk_prop.specs.Contents.{values_left}
use Rattle.hk_prop.specs.Passes.{values_that}

-- the set of values has each of them, and no other
pub Has-set_of : {value : ℕ} {values : List ℕ} → Member value values → Has (set_of values) value
Has-set_of {values = []} m = elim m [ ]
Has-set_of {values = x ∷ xs} first = omega (arith, bit_at_or (set_of xs) (2 ^ x) x, bit_at-pow_same x, bit_at-lt (set_of xs) x)
Has-set_of {value = v} {values = x ∷ xs} (later m) = let had : bit_at (set_of xs) v ≡ 1 = Has-set_of m in omega (arith, bit_at_or (set_of xs) (2 ^ x) v, had, bit_at-lt (2 ^ x) v)

pub Member-set_of : (values : List ℕ) (value : ℕ) → Has (set_of values) value → Member value values
Member-set_of [] v has = let none : bit_at 0 v ≡ 0 = bit_at-zero v in let one : bit_at 0 v ≡ 1 = has in absurd (omega arith)
Member-set_of (x ∷ xs) v has = elim (cases_eq v x) [
  | inl same ↦ subst (λ y. Member y (x ∷ xs)) (sym same) first
  | inr apart ↦ later (Member-set_of xs v (let one : bit_at (bit_or (set_of xs) (2 ^ x)) v ≡ 1 = has in omega (arith, one, bit_at_or (set_of xs) (2 ^ x) v, bit_at-pow_other x v apart)))
]

-- small values make a small set
pub set_of-small : (values : List ℕ) → ((value : ℕ) → Member value values → value < 128) → set_of values < 2 ^ 128
set_of-small [] small = omega arith
set_of-small (x ∷ xs) small = or_lt 128 (set_of xs) (2 ^ x) (set_of-small xs (λ v m. small v (later m))) (pow-lt (small x first))

-- the values of a set that pass a test
pub Has-values_that : (passes : ℕ → Bool) (from value : ℕ) → value < 128 → Has from value → passes value ≡ true → Has (values_that passes from) value
Has-values_that passes from value small has good = Has-set_of (Member-filter passes (Member-members from value small has) good)

pub values_that-has : (passes : ℕ → Bool) (from value : ℕ) → Has (values_that passes from) value → (value < 128) × Has from value × (passes value ≡ true)
values_that-has passes from value has =
    let kept = Member-filtered passes (members from) (Member-set_of (filter passes (members from)) value has) in
    let there = Has-member from kept.0 in
    (there.1, there.0, kept.1)

pub values_that-small : (passes : ℕ → Bool) (from : ℕ) → values_that passes from < 2 ^ 128
values_that-small passes from = set_of-small (filter passes (members from)) (λ value m. (Has-member from (Member-filtered passes (members from) m).0).1)

-- 1 for what passes a test, and 0 for what doesn't
abbrev pub one_if : Bool → ℕ
one_if b = cond b 1 0

counted_first : {A : Type 0} (p : A → Bool) (x : A) (xs : List A) → length (filter p (x ∷ xs)) ≡ cond (p x) 1 0 + length (filter p xs)
counted_first p x xs = by (p x)
  where
    by : (b : Bool) → length (cond b (x ∷ filter p xs) (filter p xs)) ≡ cond b 1 0 + length (filter p xs)
    by true = omega arith
    by false = omega arith

-- as many items pass a test as pass two others, where each item does
pub counted_apart : (p q s : ℕ → Bool) (xs : List ℕ) → ((x : ℕ) → Member x xs → cond (p x) 1 0 ≡ cond (q x) 1 0 + cond (s x) 1 0) → length (filter p xs) ≡ length (filter q xs) + length (filter s xs)
counted_apart p q s [] each = omega arith
counted_apart p q s (x ∷ xs) each =
    omega (arith, counted_first p x xs, counted_first q x xs, counted_first s x xs, each x first, counted_apart p q s xs (λ y m. each y (later m)))

pub counted_fewer : (p q : ℕ → Bool) (xs : List ℕ) → ((x : ℕ) → Member x xs → cond (p x) 1 0 ≤ cond (q x) 1 0) → length (filter p xs) ≤ length (filter q xs)
counted_fewer p q [] each = omega arith
counted_fewer p q (x ∷ xs) each = omega (arith, counted_first p x xs, counted_first q x xs, each x first, counted_fewer p q xs (λ y m. each y (later m)))

-- one number of a range is counted once
counted_once : (d from count : ℕ) → from ≤ d → d < from + count → length (filter (λ x. eqb x d) (range_with_len from count)) ≡ 1
counted_once d from zero low high = absurd (omega arith)
counted_once d from (suc count) low high = elim (cases_eq from d) [
  | inl same ↦
      let here : eqb from d ≡ true = eq-eqb from d same in
      let none : length (filter (λ x. eqb x d) (range_with_len (from + 1) count)) ≡ 0 = counted_none (from + 1) count (omega arith) in
      omega (arith, counted_first (λ x. eqb x d) from (range_with_len (from + 1) count), ap one_if here, none)
  | inr apart ↦
      let not_here : eqb from d ≡ false = elim (cases_Bool (eqb from d)) [ inl is ↦ absurd (apart (eqb-true from d is)) | inr is ↦ is ] in
      let rest : length (filter (λ x. eqb x d) (range_with_len (from + 1) count)) ≡ 1 = counted_once d (from + 1) count (omega (arith, apart, low)) (omega arith) in
      omega (arith, counted_first (λ x. eqb x d) from (range_with_len (from + 1) count), ap one_if not_here, rest)
]
  where
    counted_none : (start more : ℕ) → d < start → length (filter (λ x. eqb x d) (range_with_len start more)) ≡ 0
    counted_none start zero above = refl
    counted_none start (suc more) above =
        let not_here : eqb start d ≡ false = elim (cases_Bool (eqb start d)) [ inl is ↦ absurd (let same = eqb-true start d is in omega arith) | inr is ↦ is ] in
        let rest : length (filter (λ x. eqb x d) (range_with_len (start + 1) more)) ≡ 0 = counted_none (start + 1) more (omega arith) in
        omega (arith, counted_first (λ x. eqb x d) start (range_with_len (start + 1) more), ap one_if not_here, rest)

-- as tests of sets say it
test_true : (from value : ℕ) → Has from value → eqb (bit_at from value) 1 ≡ true
test_true from value has = eq-eqb (bit_at from value) 1 has

test_false : (from value : ℕ) → (Has from value → ⊥) → eqb (bit_at from value) 1 ≡ false
test_false from value hasnt = elim (cases_Bool (eqb (bit_at from value) 1)) [ inl is ↦ absurd (hasnt (eqb-true (bit_at from value) 1 is)) | inr is ↦ is ]

-- one value, and the values but one, are together as many as there were
pub parted_count : (from d : ℕ) → d < 128 → Has from d → length (members from) ≡ 1 + length (members (values_that (λ other. not (eqb other d)) from))
unfolding members
parted_count from d small has =
    let rest : ℕ = values_that (λ other. not (eqb other d)) from in
    let range : List ℕ = range_with_len 0 128 in
    omega (
      arith,
      counted_once d 0 128 (omega arith) (omega arith),
      counted_apart (λ x. eqb (bit_at from x) 1) (λ x. eqb x d) (λ x. eqb (bit_at rest x) 1) range (λ x m. elim (cases_eq x d) [
        | inl same ↦
            let here : one_if (eqb (bit_at from x) 1) ≡ 1 = ap one_if (test_true from x (subst (Has from) (sym same) has)) in
            let once : one_if (eqb x d) ≡ 1 = ap one_if (eq-eqb x d same) in
            let none : one_if (eqb (bit_at rest x) 1) ≡ 0 = ap one_if (test_false rest x (λ is. not_d x same (values_that-has (λ other. not (eqb other d)) from x is).2)) in
            omega (arith, here, once, none)
        | inr apart ↦
            let other : one_if (eqb x d) ≡ 0 = ap one_if (apart_false x apart) in
            let within : x < 128 = (let bounds = Member-ranged 0 128 m in omega (arith, bounds.1)) in
            elim (cases_Bool (eqb (bit_at from x) 1)) [
              | inl is ↦
                  let here : one_if (eqb (bit_at from x) 1) ≡ 1 = ap one_if is in
                  let kept : one_if (eqb (bit_at rest x) 1) ≡ 1 = ap one_if (test_true rest x (Has-values_that (λ o. not (eqb o d)) from x within (eqb-true (bit_at from x) 1 is) (ap not (apart_false x apart)))) in
                  omega (arith, here, other, kept)
              | inr isnt ↦
                  let gone : one_if (eqb (bit_at from x) 1) ≡ 0 = ap one_if isnt in
                  let none : one_if (eqb (bit_at rest x) 1) ≡ 0 = ap one_if (test_false rest x (λ is. eqb-false (bit_at from x) 1 isnt (values_that-has (λ o. not (eqb o d)) from x is).1)) in
                  omega (arith, gone, other, none)
            ]
      ]),
    )
  where
    apart_false : (x : ℕ) → (x ≡ d → ⊥) → eqb x d ≡ false
    apart_false x apart = elim (cases_Bool (eqb x d)) [ inl is ↦ absurd (apart (eqb-true x d is)) | inr is ↦ is ]

    not_d : (x : ℕ) → x ≡ d → not (eqb x d) ≡ true → ⊥
    not_d x same is = let e : eqb x d ≡ true = eq-eqb x d same in let f : not (eqb x d) ≡ false = ap not e in cc

-- one value alone
pub one_count : (d : ℕ) → d < 128 → length (members (set_of (d ∷ []))) ≡ 1
unfolding members
one_count d small =
    let same : length (filter (λ x. eqb (bit_at (set_of (d ∷ [])) x) 1) (range_with_len 0 128)) ≤ length (filter (λ x. eqb x d) (range_with_len 0 128)) =
    counted_fewer (λ x. eqb (bit_at (set_of (d ∷ [])) x) 1) (λ x. eqb x d) (range_with_len 0 128) (λ x m. fewer x) in
    let also : length (filter (λ x. eqb x d) (range_with_len 0 128)) ≤ length (filter (λ x. eqb (bit_at (set_of (d ∷ [])) x) 1) (range_with_len 0 128)) =
    counted_fewer (λ x. eqb x d) (λ x. eqb (bit_at (set_of (d ∷ [])) x) 1) (range_with_len 0 128) (λ x m. more x) in
    omega (arith, same, also, counted_once d 0 128 (omega arith) (omega arith))
  where
    only : (x : ℕ) → Has (set_of (d ∷ [])) x → x ≡ d
    only x has = elim (Member-cases (Member-set_of (d ∷ []) x has)) [ inl same ↦ same | inr m ↦ elim m [ ] ]

    fewer : (x : ℕ) → one_if (eqb (bit_at (set_of (d ∷ [])) x) 1) ≤ one_if (eqb x d)
    fewer x = elim (cases_Bool (eqb (bit_at (set_of (d ∷ [])) x) 1)) [
      | inl is ↦ let b : one_if (eqb x d) ≡ 1 = ap one_if (eq-eqb x d (only x (eqb-true (bit_at (set_of (d ∷ [])) x) 1 is))) in let a : one_if (eqb (bit_at (set_of (d ∷ [])) x) 1) ≡ 1 = ap one_if is in omega (arith, a, b)
      | inr isnt ↦ let a : one_if (eqb (bit_at (set_of (d ∷ [])) x) 1) ≡ 0 = ap one_if isnt in omega (arith, a)
    ]

    more : (x : ℕ) → one_if (eqb x d) ≤ one_if (eqb (bit_at (set_of (d ∷ [])) x) 1)
    more x = elim (cases_Bool (eqb x d)) [
      | inl is ↦ let a : one_if (eqb x d) ≡ 1 = ap one_if is in let b : one_if (eqb (bit_at (set_of (d ∷ [])) x) 1) ≡ 1 = ap one_if (test_true (set_of (d ∷ [])) x (Has-set_of (subst (λ y. Member y (d ∷ [])) (sym (eqb-true x d is)) first))) in omega (arith, a, b)
      | inr isnt ↦ let a : one_if (eqb x d) ≡ 0 = ap one_if isnt in omega (arith, a)
    ]

-- the values that pass a test are no more than there were
pub fewer_values : (passes : ℕ → Bool) (from : ℕ) → length (members (values_that passes from)) ≤ length (members from)
unfolding members
fewer_values passes from = counted_fewer (λ x. eqb (bit_at (values_that passes from) x) 1) (λ x. eqb (bit_at from x) 1) (range_with_len 0 128) (λ x m. by x)
  where
    by : (x : ℕ) → one_if (eqb (bit_at (values_that passes from) x) 1) ≤ one_if (eqb (bit_at from x) 1)
    by x = elim (cases_Bool (eqb (bit_at (values_that passes from) x) 1)) [
      | inl is ↦
          let a : one_if (eqb (bit_at (values_that passes from) x) 1) ≡ 1 = ap one_if is in
          let b : one_if (eqb (bit_at from x) 1) ≡ 1 = ap one_if (test_true from x (values_that-has passes from x (eqb-true (bit_at (values_that passes from) x) 1 is)).1) in
          omega (arith, a, b)
      | inr isnt ↦ let a : one_if (eqb (bit_at (values_that passes from) x) 1) ≡ 0 = ap one_if isnt in omega (arith, a)
    ]

-- the values of all variables, where one set is another
pub values_left-set : (sets : List ℕ) (variable new : ℕ) → variable < length sets → values_left (set sets variable new) + length (members (get_or sets variable 0)) ≡ values_left sets + length (members new)
values_left-set [] variable new within = absurd (omega arith)
values_left-set (x ∷ xs) zero new within = omega arith
values_left-set (x ∷ xs) (suc k) new within = omega (arith, values_left-set xs k new (omega arith))

-- fewer items pass a test than another, where each that passes the first passes the second, and one passes the second alone
counted_less : (p q : ℕ → Bool) {x : ℕ} {xs : List ℕ} → ((y : ℕ) → Member y xs → cond (p y) 1 0 ≤ cond (q y) 1 0) → Member x xs → p x ≡ false → q x ≡ true → length (filter p xs) < length (filter q xs)
counted_less p q {xs = []} each m no_p yes_q = elim m [ ]
counted_less p q {xs = y ∷ ys} each first no_p yes_q =
    let none : one_if (p y) ≡ 0 = ap one_if no_p in
    let one : one_if (q y) ≡ 1 = ap one_if yes_q in
    omega (arith, none, one, counted_first p y ys, counted_first q y ys, counted_fewer p q ys (λ z n. each z (later n)))
counted_less p q {xs = y ∷ ys} each (later m) no_p yes_q =
    omega (arith, counted_first p y ys, counted_first q y ys, each y first, counted_less p q {xs = ys} (λ z n. each z (later n)) m no_p yes_q)

-- where as many values pass a test as there are, all do
pub all_pass : (passes : ℕ → Bool) (from : ℕ) → length (members (values_that passes from)) ≡ length (members from) → (value : ℕ) → value < 128 → Has from value → Has (values_that passes from) value
unfolding members
all_pass passes from same value small has = elim (cases_Bool (eqb (bit_at (values_that passes from) value) 1)) [
  | inl is ↦ eqb-true (bit_at (values_that passes from) value) 1 is
  | inr isnt ↦ absurd (let less = counted_less (λ x. eqb (bit_at (values_that passes from) x) 1) (λ x. eqb (bit_at from x) 1) {xs = range_with_len 0 128} (λ x m. fewer x) (Member-range 0 128 value (omega arith) (omega arith)) isnt (test_true from value has) in omega (arith, less, same))
]
  where
    fewer : (x : ℕ) → one_if (eqb (bit_at (values_that passes from) x) 1) ≤ one_if (eqb (bit_at from x) 1)
    fewer x = elim (cases_Bool (eqb (bit_at (values_that passes from) x) 1)) [
      | inl is ↦
          let a : one_if (eqb (bit_at (values_that passes from) x) 1) ≡ 1 = ap one_if is in
          let b : one_if (eqb (bit_at from x) 1) ≡ 1 = ap one_if (test_true from x (values_that-has passes from x (eqb-true (bit_at (values_that passes from) x) 1 is)).1) in
          omega (arith, a, b)
      | inr isnt ↦ let a : one_if (eqb (bit_at (values_that passes from) x) 1) ≡ 0 = ap one_if isnt in omega (arith, a)
    ]
