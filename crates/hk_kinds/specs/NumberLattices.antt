-- The proofs that numbers with the less or the greater as their join are lattices, and so are intervals.
use Rattle.std.specs.Prelude.{◌≡◌, ℤ, Bool, true, ◌&&◌, int_le, FitsSigned}
use Rattle.std.specs.Int.{int_max, int_min, w64}
use Rattle.std.proofs.Common.{arith, ap, ◌∙◌}
use Rattle.std.proofs.lemmas.Int.{ints}
use Rattle.hk_kinds.specs.Lattices.{IsLattice}
use Rattle.hk_kinds.specs.declared.numbers.MinNum.{MinNum}
use Rattle.hk_kinds.specs.declared.numbers.MaxNum.{MaxNum}
use Rattle.hk_kinds.specs.declared.numbers.Span.{Span}

pub le_itself : (a : ℤ) → int_le a a ≡ true
le_itself a = grind (arith, ints)

pub le_along : (a b c : ℤ) → int_le a b ≡ true → int_le b c ≡ true → int_le a c ≡ true
le_along a b c h k = grind (arith, ints)

pub le_both_ways : (a b : ℤ) → int_le a b ≡ true → int_le b a ≡ true → a ≡ b
le_both_ways a b h k = grind (arith, ints)

pub min_below_first : (a b : ℤ) → int_le (int_min a b) a ≡ true
min_below_first a b = grind (arith, ints)

pub min_below_second : (a b : ℤ) → int_le (int_min a b) b ≡ true
min_below_second a b = grind (arith, ints)

pub min_greatest : (a b c : ℤ) → int_le c a ≡ true → int_le c b ≡ true → int_le c (int_min a b) ≡ true
min_greatest a b c h k = grind (arith, ints)

pub max_above_first : (a b : ℤ) → int_le a (int_max a b) ≡ true
max_above_first a b = grind (arith, ints)

pub max_above_second : (a b : ℤ) → int_le b (int_max a b) ≡ true
max_above_second a b = grind (arith, ints)

pub max_least : (a b c : ℤ) → int_le a c ≡ true → int_le b c ≡ true → int_le (int_max a b) c ≡ true
max_least a b c h k = grind (arith, ints)

pub both_true : (a b : Bool) → a ≡ true → b ≡ true → (a && b) ≡ true
both_true a b h k = grind arith

pub first_true : (a b : Bool) → (a && b) ≡ true → a ≡ true
first_true a b h = grind arith

pub second_true : (a b : Bool) → (a && b) ≡ true → b ≡ true
second_true a b h = grind arith

abbrev min_number : ℤ → MinNum
min_number n = record { 0 = n }

abbrev max_number : ℤ → MaxNum
max_number n = record { 0 = n }

abbrev span : ℤ → ℤ → Span
span low high = record { 0 = low; 1 = high }

pub min_numbers : IsLattice {T = MinNum} (λ a. FitsSigned w64 a.0) (λ a b. min_number (int_min a.0 b.0)) (λ a b. int_le a.0 b.0)
min_numbers = record {
  covers_first = λ a b _ _. min_below_first a.0 b.0;
  covers_second = λ a b _ _. min_below_second a.0 b.0;
  least = λ a b c _ _ _ h k. min_greatest a.0 b.0 c.0 h k;
  reflexive = λ a _. le_itself a.0;
  transitive = λ a b c _ _ _ h k. le_along a.0 b.0 c.0 h k;
  antisymmetric = λ a b _ _ h k. ap min_number (le_both_ways a.0 b.0 h k);
}

pub max_numbers : IsLattice {T = MaxNum} (λ a. FitsSigned w64 a.0) (λ a b. max_number (int_max a.0 b.0)) (λ a b. int_le b.0 a.0)
max_numbers = record {
  covers_first = λ a b _ _. max_above_first a.0 b.0;
  covers_second = λ a b _ _. max_above_second a.0 b.0;
  least = λ a b c _ _ _ h k. max_least a.0 b.0 c.0 h k;
  reflexive = λ a _. le_itself a.0;
  transitive = λ a b c _ _ _ h k. le_along c.0 b.0 a.0 k h;
  antisymmetric = λ a b _ _ h k. ap max_number (le_both_ways a.0 b.0 k h);
}

same_span : (a b c d : ℤ) → a ≡ c → b ≡ d → span a b ≡ span c d
same_span a b c d h k = ap (λ n. span n b) h ∙ ap (λ n. span c n) k

pub spans : IsLattice {T = Span} (λ a. FitsSigned w64 a.0 × FitsSigned w64 a.1) (λ a b. span (int_min a.0 b.0) (int_max a.1 b.1)) (λ a b. int_le a.0 b.0 && int_le b.1 a.1)
spans = record {
  covers_first = λ a b _ _. both_true _ _ (min_below_first a.0 b.0) (max_above_first a.1 b.1);
  covers_second = λ a b _ _. both_true _ _ (min_below_second a.0 b.0) (max_above_second a.1 b.1);
  least = λ a b c _ _ _ h k. both_true _ _ (min_greatest a.0 b.0 c.0 (first_true _ _ h) (first_true _ _ k)) (max_least a.1 b.1 c.1 (second_true _ _ h) (second_true _ _ k));
  reflexive = λ a _. both_true _ _ (le_itself a.0) (le_itself a.1);
  transitive = λ a b c _ _ _ h k. both_true _ _ (le_along a.0 b.0 c.0 (first_true _ _ h) (first_true _ _ k)) (le_along c.1 b.1 a.1 (second_true _ _ k) (second_true _ _ h));
  antisymmetric = λ a b _ _ h k. same_span _ _ _ _ (le_both_ways a.0 b.0 (first_true _ _ h) (first_true _ _ k)) (le_both_ways a.1 b.1 (second_true _ _ k) (second_true _ _ h));
}
