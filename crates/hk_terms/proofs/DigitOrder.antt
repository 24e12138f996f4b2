-- How the digits of two numbers tell which number is less.
use Rattle.std.proofs.Common.{◌≡◌, ◌≢◌, ◌↔◌, ℕ, ◌+◌, ◌-◌, ◌*◌, ◌<◌, zero, suc, List, [], ◌∷◌, length, Some, IsTrue, nat_lt, true, false, Bool, refl, sym, ap, ◌∙◌, subst, arith}
use Rattle.std.specs.Char.{digit_value}
use Rattle.std.specs.Cmp.{ranks}
use Rattle.std.specs.Cmp.Lexicographic.{slice_cmp, slice_partial_cmp}
use Rattle.std.proofs.Common.{Ordering, Less, Equal, Greater}
use Rattle.std.specs.Ordering.{MatchOrdering, nat_cmp, ordering_then, partial_ordering_then, partial_lt, is_lt, is_some_and}
use Rattle.std.specs.Str.Parse.{AllDigits, digits_value, digits_value_after}
use Rattle.std.proofs.lemmas.Bool.Decides.{nat_tests}
use Rattle.std.proofs.lemmas.Str.{digit_value_digit}
use Rattle.std.proofs.lemmas.Str.Parse.{digit_from_value}
use Rattle.hk_text.specs.Numbers.{IsNumber}

-- the value of a digit is its distance from `0`
digit_above : (byte : ℕ) → digit_value byte < 10 → digit_value byte + 48 ≡ byte
digit_above byte digit = digit_value_digit byte (digit_from_value byte digit)

-- as many digits after a less number write a less number
after_less : (m n : ℕ) (a b : List ℕ) → length a ≡ length b → AllDigits 10 a → m < n → digits_value_after 10 m a < digits_value_after 10 n b
after_less m n [] [] same digits less = less
after_less m n [] (y ∷ b) same digits less = let never : ⊥ = omega (arith, same) in absurd never
after_less m n (x ∷ a) [] same digits less = let never : ⊥ = omega (arith, same) in absurd never
after_less m n (x ∷ a) (y ∷ b) same digits less = after_less (m * 10 + digit_value x) (n * 10 + digit_value y) a b (omega (arith, same)) digits.1 (omega (arith, digits.0, less))

-- so do fewer digits, where the other number isn't 0
after_longer : (more n : ℕ) (a b : List ℕ) → length b ≡ more + length a → AllDigits 10 a → 0 < n → digits_value_after 10 0 a < digits_value_after 10 n b
after_longer zero n a b size digits some = after_less 0 n a b (omega (arith, size)) digits some
after_longer (suc more) n a [] size digits some = let never : ⊥ = omega (arith, size) in absurd never
after_longer (suc more) n a (y ∷ b) size digits some = after_longer more (n * 10 + digit_value y) a b (omega (arith, size)) digits (omega (arith, some))

-- digits after the same number compare in this way as the numbers do
abbrev Orders : ℕ → List ℕ → List ℕ → Ordering → Type 0
Orders m a b o = MatchOrdering o (digits_value_after 10 m a < digits_value_after 10 m b) (digits_value_after 10 m a ≡ digits_value_after 10 m b) (digits_value_after 10 m b < digits_value_after 10 m a)

-- the first digits compare, or else those after them
orders_more : (m x y : ℕ) (a b : List ℕ) (o : Ordering) → length a ≡ length b → AllDigits 10 (x ∷ a) → AllDigits 10 (y ∷ b) → MatchOrdering o (x < y) (x ≡ y) (y < x) → Orders (m * 10 + digit_value x) a b (slice_cmp nat_cmp a b) → Orders m (x ∷ a) (y ∷ b) (ordering_then o (slice_cmp nat_cmp a b))
orders_more m x y a b Less size digits others less more =
    after_less (m * 10 + digit_value x) (m * 10 + digit_value y) a b size digits.1 (omega (arith, less, digit_above x digits.0, digit_above y others.0))
orders_more m x y a b Equal size digits others equal more = subst (λ z. Orders m (x ∷ a) (z ∷ b) (slice_cmp nat_cmp a b)) equal more
orders_more m x y a b Greater size digits others greater more =
    after_less (m * 10 + digit_value y) (m * 10 + digit_value x) b a (sym size) others.1 (omega (arith, greater, digit_above x digits.0, digit_above y others.0))

-- as many digits compare byte by byte
after_order : (m : ℕ) (a b : List ℕ) → length a ≡ length b → AllDigits 10 a → AllDigits 10 b → Orders m a b (slice_cmp nat_cmp a b)
after_order m [] [] same digits others = refl
after_order m [] (y ∷ b) same digits others = let never : ⊥ = omega (arith, same) in absurd never
after_order m (x ∷ a) [] same digits others = let never : ⊥ = omega (arith, same) in absurd never
after_order m (x ∷ a) (y ∷ b) same digits others =
    let size : length a ≡ length b = omega (arith, same) in
    orders_more m x y a b (nat_cmp x y) size digits others (ranks x y) (after_order (m * 10 + digit_value x) a b size digits.1 others.1)

-- of two numbers the one with fewer digits is less
pub shorter_less : {a b : List ℕ} {m n : ℕ} → IsNumber a m → IsNumber b n → length a < length b → m < n
shorter_less {a = a} {b = b} {m = m} {n = n} first second shorter = by a b first second shorter
  where
    by : (a b : List ℕ) → IsNumber a m → IsNumber b n → length a < length b → m < n
    by [] b first second shorter = absurd first.plain
    by (x ∷ a) [] first second shorter = let never : ⊥ = omega (arith, shorter) in absurd never
    by (x ∷ a) (y ∷ []) first second shorter = let never : ⊥ = omega (arith, shorter) in absurd never
    by (x ∷ a) (y ∷ z ∷ b) first second shorter =
        let above = digit_above y second.digits.0 in
        let some : 0 < 0 * 10 + digit_value y = omega (arith, above, second.plain) in
        let less = after_longer (length b - length a) (0 * 10 + digit_value y) (x ∷ a) (z ∷ b) (omega (arith, shorter)) first.digits some in
        omega (arith, less, first.value, second.value)

-- and the number with more digits isn't less
pub shorter_only : {a b : List ℕ} {m n : ℕ} → IsNumber a m → IsNumber b n → length a ≢ length b → m < n → length a < length b
shorter_only {a = a} {b = b} {m = m} {n = n} first second other less = by (nat_lt (length a) (length b)) refl
  where
    by : (test : Bool) → nat_lt (length a) (length b) ≡ test → length a < length b
    by true shorter = grind (arith, nat_tests)
    by false longer =
        let greater = shorter_less second first (grind (arith, nat_tests)) in
        let never : ⊥ = omega (arith, less, greater) in
        absurd never

-- the bytes of two lists always compare
compares : (a b : List ℕ) → slice_partial_cmp (λ x y. Some (nat_cmp x y)) a b ≡ Some (slice_cmp nat_cmp a b)
compares [] [] = refl
compares [] (y ∷ b) = refl
compares (x ∷ a) [] = refl
compares (x ∷ a) (y ∷ b) = ap (partial_ordering_then (Some (nat_cmp x y))) (compares a b) ∙ both (nat_cmp x y) (slice_cmp nat_cmp a b)
  where
    both : (o r : Ordering) → partial_ordering_then (Some o) (Some r) ≡ Some (ordering_then o r)
    both Less r = refl
    both Equal r = refl
    both Greater r = refl

-- the comparison tells which number is less
less_test : (o : Ordering) (m n : ℕ) → MatchOrdering o (m < n) (m ≡ n) (n < m) → IsTrue (is_lt o) ↔ m < n
less_test Less m n less = (λ _. less, λ _. refl)
less_test Equal m n equal = (λ test. let never : ⊥ = cc in absurd never, λ less. let never : ⊥ = omega (arith, equal, less) in absurd never)
less_test Greater m n greater = (λ test. let never : ⊥ = cc in absurd never, λ less. let never : ⊥ = omega (arith, greater, less) in absurd never)

-- of two numbers with as many digits the bytes tell which is less
pub same_less : {a b : List ℕ} {m n : ℕ} → IsNumber a m → IsNumber b n → length a ≡ length b → IsTrue (partial_lt (slice_partial_cmp (λ x y. Some (nat_cmp x y))) a b) ↔ m < n
same_less {a = a} {b = b} {m = m} {n = n} first second same =
    let order = after_order 0 a b same first.digits second.digits in
    let numbers = subst (λ k. MatchOrdering (slice_cmp nat_cmp a b) (m < k) (m ≡ k) (k < m)) second.value (subst (λ k. MatchOrdering (slice_cmp nat_cmp a b) (k < digits_value 10 b) (k ≡ digits_value 10 b) (digits_value 10 b < k)) first.value order) in
    subst (λ o. IsTrue (is_some_and is_lt o) ↔ m < n) (sym (compares a b)) (less_test (slice_cmp nat_cmp a b) m n numbers)
