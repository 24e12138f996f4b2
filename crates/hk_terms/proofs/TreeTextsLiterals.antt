-- Numbers and sets of values are determined by how they are written.
use Rattle.std.proofs.Common.{◌≡◌, ℕ, ℤ, pos, negsuc, ◌+◌, ◌^◌, ◌<◌, ◌≤◌, ◌==◌, zero, suc, Bool, true, false, cond, ◌||◌, nat_eq, List, ◌∷◌, filter, map, refl, sym, ap, ◌∙◌, arith}
use Rattle.std.specs.Fmt.{decimal}
use Rattle.std.specs.Int.{bit_at}
use Rattle.std.specs.List.{list_any, range_with_len}
use Rattle.std.specs.Str.Parse.{digits_value}
use Rattle.std.proofs.lemmas.Bool.{or_from}
use Rattle.std.proofs.lemmas.Bool.Decides.{nat_tests}
use Rattle.std.proofs.lemmas.Fmt.{decimal_injective, decimal_is_IsNumeral}
use Rattle.std.proofs.lemmas.Int.{ints}
use Rattle.std.proofs.lemmas.Nat.Bits.{bit_at-lt, same_from_bits_below}
use Rattle.hk_spec.specs.Scopes.{is_within_limit}
use Rattle.hk_terms.specs.Trees.{member_texts, is_negative, digits_of}

small_plain : (n : ℕ) → is_within_limit (pos n) ≡ true → n < 2 ^ 64
small_plain n within = grind (arith, ints, nat_tests)

small_negative : (n : ℕ) → is_within_limit (negsuc n) ≡ true → suc n < 2 ^ 64
small_negative n within = grind (arith, ints, nat_tests)

-- a number is determined by its sign and its digits
pub number_one : (y z : ℤ) → is_within_limit y ≡ true → is_within_limit z ≡ true → is_negative y ≡ is_negative z → digits_of y ≡ digits_of z → y ≡ z
number_one (pos m) (pos n) small also sign digits = ap pos (decimal_injective m n (small_plain m small) (small_plain n also) digits)
number_one (pos m) (negsuc n) small also sign digits = absurd cc
number_one (negsuc m) (pos n) small also sign digits = absurd cc
number_one (negsuc m) (negsuc n) small also sign digits =
    let same : suc m ≡ suc n = decimal_injective (suc m) (suc n) (small_negative m small) (small_negative n also) digits in
    ap negsuc (omega (arith, same))

-- the members among so many numbers from one on
members_from : ℕ → ℕ → ℕ → List ℕ
members_from set a l = filter (λ value. bit_at set value == 1) (range_with_len a l)

module _ (set : ℕ) where
  value_kept : (a : ℕ) (test : Bool) (xs : List ℕ) → a < 128 → map (digits_value 10) (map decimal xs) ≡ xs → map (digits_value 10) (map decimal (cond test (a ∷ xs) xs)) ≡ cond test (a ∷ xs) xs
  value_kept a true xs small same = ap (λ n. n ∷ map (digits_value 10) (map decimal xs)) (decimal_is_IsNumeral a (omega (arith, small))).1 ∙ ap (λ ys. a ∷ ys) same
  value_kept a false xs small same = same

  -- the members are the values of their digits
  values_kept : (a l : ℕ) → a + l ≤ 128 → map (digits_value 10) (map decimal (members_from set a l)) ≡ members_from set a l
  unfolding members_from
  values_kept a zero within = refl
  values_kept a (suc l) within = value_kept a (bit_at set a == 1) (members_from set (a + 1) l) (omega (arith, within)) (values_kept (a + 1) l (omega (arith, within)))

  -- what is below the first is not among them
  below_missed : (i a l : ℕ) → i < a → list_any (nat_eq i) (members_from set a l) ≡ false
  unfolding members_from
  below_missed i a zero below = refl
  below_missed i a (suc l) below = by (bit_at set a == 1) (members_from set (a + 1) l) (below_missed i (a + 1) l (omega (arith, below)))
    where
      other : nat_eq i a ≡ false
      other = grind (arith, nat_tests)

      by : (test : Bool) (xs : List ℕ) → list_any (nat_eq i) xs ≡ false → list_any (nat_eq i) (cond test (a ∷ xs) xs) ≡ false
      by true xs missed = or_from _ _ other missed
      by false xs missed = missed

  -- a number is among them where its bit is set
  member_found : (i a l : ℕ) → a ≤ i → i < a + l → list_any (nat_eq i) (members_from set a l) ≡ (bit_at set i == 1)
  unfolding members_from
  member_found i a zero above below = absurd (omega (arith, above, below))
  member_found i a (suc l) above below = by (nat_eq i a) refl (λ later. member_found i (a + 1) l (omega (arith, later)) (omega (arith, below)))
    where
      here : (test : Bool) (xs : List ℕ) → nat_eq i a ≡ true → list_any (nat_eq i) xs ≡ false → list_any (nat_eq i) (cond test (a ∷ xs) xs) ≡ test
      here true xs same missed = ap (λ b. b || list_any (nat_eq i) xs) same
      here false xs same missed = missed

      there : (test : Bool) (xs : List ℕ) → nat_eq i a ≡ false → list_any (nat_eq i) (cond test (a ∷ xs) xs) ≡ list_any (nat_eq i) xs
      there true xs other = ap (λ b. b || list_any (nat_eq i) xs) other
      there false xs other = refl

      by : (test : Bool) → nat_eq i a ≡ test → (suc a ≤ i → list_any (nat_eq i) (members_from set (a + 1) l) ≡ (bit_at set i == 1)) → list_any (nat_eq i) (members_from set a (suc l)) ≡ (bit_at set i == 1)
      by true is later =
          let same : i ≡ a = grind (arith, nat_tests) in
          here (bit_at set a == 1) (members_from set (a + 1) l) is (below_missed i (a + 1) l (omega (arith, same))) ∙ ap (λ k. bit_at set k == 1) (sym same)
      by false is later =
          let after : suc a ≤ i = grind (arith, nat_tests) in
          there (bit_at set a == 1) (members_from set (a + 1) l) is ∙ later after

same_bit : (x y : ℕ) → x < 2 → y < 2 → (x == 1) ≡ (y == 1) → x ≡ y
same_bit x y small also same = by (x == 1) refl (sym same)
  where
    by : (test : Bool) → (x == 1) ≡ test → (y == 1) ≡ (x == 1) → x ≡ y
    by true is also_is = grind (arith, nat_tests)
    by false is also_is = grind (arith, nat_tests)

-- a set of values is determined by how its members are written
pub set_one : (s t : ℕ) → s < 2 ^ 128 → t < 2 ^ 128 → member_texts s ≡ member_texts t → s ≡ t
unfolding members_from
set_one s t small also same =
    let members_are : members_from s 0 128 ≡ members_from t 0 128 = sym (values_kept s 0 128 (omega arith)) ∙ ap (map (digits_value 10)) same ∙ values_kept t 0 128 (omega arith) in
    same_from_bits_below 128 s t small also (λ i below. same_bit _ _ (bit_at-lt s i) (bit_at-lt t i)
    (sym (member_found s i 0 128 (omega arith) (omega (arith, below))) ∙ ap (list_any (nat_eq i)) members_are ∙ member_found t i 0 128 (omega arith) (omega (arith, below))))
