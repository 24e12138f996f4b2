-- Sets of values as numbers: the set of one value, a set without one, and sets of several.
use Rattle.std.proofs.Common.{◌≡◌, ◌≢◌, ℕ, ◌*◌, ◌%◌, ◌^◌, ◌<◌, ◌≤◌, bit_and, refl, sym, ◌∙◌, ap, arith, inl, inr, not, ◌==◌, ◌↔◌, IsTrue}
use Rattle.std.proofs.lemmas.Bool.Decides.{eqb_tells}
use Rattle.std.specs.Int.{bit_at, bit_not, trailing_zeros, w128}
use Rattle.std.proofs.Math.Pow.{pow-lt}
use Rattle.std.proofs.lemmas.Bool.{cases_eq, cases_lt}
use Rattle.std.proofs.lemmas.Nat.{and_le_l}
use Rattle.std.proofs.lemmas.Nat.Bits.{bit_at-lt, bit_at-pow_same, bit_at-pow_other, bit_at-trailing_zeros, bit_at-zero, bit_at_above, bit_at_clear_same, bit_at_clear_other, same_from_bits}
use Rattle.hk_base.specs.Sets.{Has}
use Rattle.hk_domains.specs.Values.{HasSeveral, IsOnlyValue, IsWithout}

-- a shifted bit is a power of two
pub one_bit : (value : ℕ) → value < 128 → 1 * 2 ^ value % 2 ^ 128 ≡ 2 ^ value
one_bit value within = let fits : 2 ^ value < 2 ^ 128 = pow-lt within in omega (arith, fits)

-- a set with the bit of one value cleared
pub IsWithout-clear : (set value : ℕ) → set < 2 ^ 128 → value < 128 → IsWithout set value (bit_and set (bit_not w128 (1 * 2 ^ value % 2 ^ 128)))
IsWithout-clear set value fits within =
    let cleared : ℕ = bit_and set (bit_not w128 (1 * 2 ^ value % 2 ^ 128)) in
    let fewer : cleared ≤ set = and_le_l set (bit_not w128 (1 * 2 ^ value % 2 ^ 128)) in record {
      gone = bit_at_clear_same w128 set value within;
      others = λ other apart. elim (cases_lt other 128) [
        | inl below ↦ bit_at_clear_other w128 set value within other below apart
        | inr past ↦ bit_at_above cleared 128 other (omega (arith, fewer, fits)) past ∙ sym (bit_at_above set 128 other fits past)
      ];
    }

-- a set without a value that it doesn't have is the set itself
pub IsWithout-absent : (set value rest : ℕ) → IsWithout set value rest → (Has set value → ⊥) → rest ≡ set
IsWithout-absent set value rest without absent = same_from_bits rest set λ other. elim (cases_eq other value) [
  | inl same ↦ rw same (without.gone ∙ (omega (arith, absent, bit_at-lt set value)))
  | inr apart ↦ without.others other apart
]

-- the set of one bit
pub IsOnlyValue-one_bit : (value : ℕ) → value < 128 → IsOnlyValue (1 * 2 ^ value % 2 ^ 128) value
IsOnlyValue-one_bit value within = record {
  within = within;
  has = rw (one_bit value within) (bit_at-pow_same value);
  only = λ other below has. elim (cases_eq other value) [
    | inl same ↦ same
    | inr apart ↦ let none : bit_at (2 ^ value) other ≡ 0 = bit_at-pow_other value other apart in let one : bit_at (2 ^ value) other ≡ 1 = rw (one_bit value within) at has in absurd (omega arith)
  ];
}

-- a set that is empty without one value has no two
pub HasSeveral-one : (set value : ℕ) → IsWithout set value 0 → HasSeveral set → ⊥
HasSeveral-one set value without several = elim (cases_eq several.low value) [
  | inl same ↦ let none : 0 ≡ bit_at set several.high = sym (bit_at-zero several.high) ∙ without.others several.high (omega (arith, several.apart)) in let one : bit_at set several.high ≡ 1 = several.has_high in omega arith
  | inr apart ↦ let none : 0 ≡ bit_at set several.low = sym (bit_at-zero several.low) ∙ without.others several.low apart in let one : bit_at set several.low ≡ 1 = several.has_low in omega arith
]

-- another value than the lowest
pub HasSeveral-other : (set other : ℕ) → 0 < set → set < 2 ^ 128 → other < 128 → Has set other → other ≢ trailing_zeros w128 set → HasSeveral set
HasSeveral-other set other some fits within has apart =
    let lowest = bit_at-trailing_zeros w128 set some fits in
    elim (cases_lt (trailing_zeros w128 set) other) [
      | inl above ↦ record { low = trailing_zeros w128 set; high = other; apart = above; within = within; has_low = lowest.1; has_high = has }
      | inr below ↦ let none : bit_at set other ≡ 0 = lowest.2 other (omega (arith, below, apart)) in let one : bit_at set other ≡ 1 = has in absurd (omega arith)
    ]

-- a set that isn't empty without its lowest value has two
pub HasSeveral-rest : (set rest : ℕ) → 0 < set → set < 2 ^ 128 → rest < 2 ^ 128 → IsWithout set (trailing_zeros w128 set) rest → 0 < rest → HasSeveral set
HasSeveral-rest set rest some fits rest_fits without left =
    let next = bit_at-trailing_zeros w128 rest left rest_fits in
    let apart : trailing_zeros w128 rest ≢ trailing_zeros w128 set = λ same.
    let one : bit_at rest (trailing_zeros w128 set) ≡ 1 = ap (λ k. bit_at rest k) (sym same) ∙ next.1 in let none : bit_at rest (trailing_zeros w128 set) ≡ 0 = without.gone in omega arith in
    HasSeveral-other set (trailing_zeros w128 rest) some fits next.0 (sym (without.others (trailing_zeros w128 rest) apart) ∙ next.1) apart

-- whether anything is left without the lowest value tells whether there are two
pub HasSeveral-test : (set rest : ℕ) → 0 < set → set < 2 ^ 128 → rest < 2 ^ 128 → IsWithout set (trailing_zeros w128 set) rest → IsTrue (not (rest == 0)) ↔ HasSeveral set
HasSeveral-test set rest some fits rest_fits without = elim (eqb_tells rest 0) [
  | inl none ↦ rw none.0 (λ left. cc, λ several. absurd (HasSeveral-one set (trailing_zeros w128 set) (rw none.1 at without) several))
  | inr left ↦ rw left.0 (λ _. HasSeveral-rest set rest some fits rest_fits without (omega (arith, left.1)), λ _. refl)
]

-- the lowest value of a set that has no two is its only one
pub IsOnlyValue-lowest : (set : ℕ) → 0 < set → set < 2 ^ 128 → (HasSeveral set → ⊥) → IsOnlyValue set (trailing_zeros w128 set)
IsOnlyValue-lowest set some fits single =
    let lowest = bit_at-trailing_zeros w128 set some fits in
    record {
      within = lowest.0;
      has = lowest.1;
      only = λ other within has. elim (cases_eq other (trailing_zeros w128 set)) [
        | inl same ↦ same
        | inr apart ↦ absurd (single (HasSeveral-other set other some fits within has apart))
      ];
    }
