-- Sets of rows in two halves: what stands in each half, one row more, two sets in one, and the set of no row.
use Rattle.std.proofs.Common.{◌≡◌, ◌⊎◌, ◌↔◌, ℕ, ◌+◌, ◌-◌, ◌*◌, ◌/◌, ◌%◌, ◌^◌, ◌<◌, ◌≤◌, [], eqb, max, bit_and, bit_or, IsTrue, refl, sym, ◌∙◌, ap, subst, inl, inr, arith}
use Rattle.std.specs.Int.{bit_at, w128}
use Rattle.std.proofs.lemmas.Bool.{cases_eq, cases_lt, eq-eqb, eqb-true}
use Rattle.std.proofs.lemmas.Nat.{or_lt}
use Rattle.std.proofs.lemmas.Nat.Bits.{bit_at-lt, bit_at-zero, bit_at_cat_low, bit_at_cat_high, bit_at_or, bit_at_set_same, bit_at_set_other, same_from_bits_below, shr_and_one}
use Rattle.hk_base.specs.Sets.{Has}
use Rattle.hk_table.proofs.Members.{Member-filter, Member-range}
use Rattle.hk_table.proofs.ValueSets.{members_below_empty}
use Rattle.hk_table.specs.Members.{Member}
use Rattle.hk_text.specs.Sets.{members_below}

-- the test of a bit says whether a set has it
bit_test : (set place : ℕ) → IsTrue (eqb (bit_and (set / 2 ^ place) 1) 1) ↔ Has set place
bit_test set place = (
  λ test. sym (shr_and_one set place) ∙ eqb-true (bit_and (set / 2 ^ place) 1) 1 test,
  λ has. eq-eqb (bit_and (set / 2 ^ place) 1) 1 (shr_and_one set place ∙ has),
)

-- a bit that is set is one more
pub bit_more : (set place other : ℕ) → place < 128 → Has (bit_or set (1 * 2 ^ place % 2 ^ 128)) other ↔ (Has set other ⊎ (other ≡ place))
bit_more set place other within = elim (cases_eq other place) [
  | inl same ↦ (λ has. inr same, λ either. rw same (bit_at_set_same w128 set place within))
  | inr apart ↦ let kept = bit_at_set_other w128 set place within other apart in (λ has. inl (sym kept ∙ has), λ either. elim either [ inl had ↦ kept ∙ had | inr same ↦ absurd (apart same) ])
]

-- the bit of a row is one of the low half, or of the high one
low_bit : (high low now row : ℕ) → high * 2 ^ 128 + low ≡ now → row < 128 → bit_at now row ≡ bit_at low row
low_bit high low now row is below = ap (λ n. bit_at n row) (sym is) ∙ bit_at_cat_low high 128 low row below

high_bit : (high low now row : ℕ) → high * 2 ^ 128 + low ≡ now → low < 2 ^ 128 → 128 ≤ row → bit_at now row ≡ bit_at high (row - 128)
high_bit high low now row is fits above = ap (λ n. bit_at n row) (sym is) ∙ bit_at_cat_high high 128 low row fits above

pub low_has : (high low now row : ℕ) → high * 2 ^ 128 + low ≡ now → row < 128 → IsTrue (eqb (bit_and (low / 2 ^ row) 1) 1) ↔ Has now row
low_has high low now row is below = rw (low_bit high low now row is below) (bit_test low row)

pub high_has : (high low now row : ℕ) → high * 2 ^ 128 + low ≡ now → low < 2 ^ 128 → 128 ≤ row → IsTrue (eqb (bit_and (high / 2 ^ (row - 128)) 1) 1) ↔ Has now row
high_has high low now row is fits above = rw (high_bit high low now row is fits above) (bit_test high (row - 128))

-- a half with a bit more still fits
pub bit_fits : (half place : ℕ) → half < 2 ^ 128 → place < 128 → bit_or half (1 * 2 ^ place % 2 ^ 128) < 2 ^ 128
bit_fits half place fits below = or_lt 128 half (1 * 2 ^ place % 2 ^ 128) fits (omega arith)

-- a row more in either half
pub low_more : (high low now row : ℕ) → high * 2 ^ 128 + low ≡ now → low < 2 ^ 128 → row < 128 → (other : ℕ) → Has (high * 2 ^ 128 + bit_or low (1 * 2 ^ row % 2 ^ 128)) other ↔ (Has now other ⊎ (other ≡ row))
low_more high low now row is fits below other = elim (cases_lt other 128) [
  | inl low_one ↦ rw (low_bit high (bit_or low (1 * 2 ^ row % 2 ^ 128)) _ other refl low_one, low_bit high low now other is low_one) (bit_more low row other below)
  | inr high_one ↦
      let kept : bit_at (high * 2 ^ 128 + bit_or low (1 * 2 ^ row % 2 ^ 128)) other ≡ bit_at now other = high_bit high (bit_or low (1 * 2 ^ row % 2 ^ 128)) _ other refl (bit_fits low row fits below) high_one ∙ sym (high_bit high low now other is fits high_one) in
      (λ has. inl (sym kept ∙ has), λ either. elim either [ inl had ↦ kept ∙ had | inr same ↦ absurd (omega arith) ])
]

pub high_more : (high low now row : ℕ) → high * 2 ^ 128 + low ≡ now → low < 2 ^ 128 → 128 ≤ row → row < 256 → (other : ℕ) → Has (bit_or high (1 * 2 ^ (row - 128) % 2 ^ 128) * 2 ^ 128 + low) other ↔ (Has now other ⊎ (other ≡ row))
high_more high low now row is fits above below other = elim (cases_lt other 128) [
  | inl low_one ↦
      let kept : bit_at (bit_or high (1 * 2 ^ (row - 128) % 2 ^ 128) * 2 ^ 128 + low) other ≡ bit_at now other = low_bit (bit_or high (1 * 2 ^ (row - 128) % 2 ^ 128)) low _ other refl low_one ∙ sym (low_bit high low now other is low_one) in
      (λ has. inl (sym kept ∙ has), λ either. elim either [ inl had ↦ kept ∙ had | inr same ↦ absurd (omega arith) ])
  | inr high_one ↦
      let more = bit_more high (row - 128) (other - 128) (omega arith) in
      let after = high_bit (bit_or high (1 * 2 ^ (row - 128) % 2 ^ 128)) low _ other refl fits high_one in
      let before = high_bit high low now other is fits high_one in (
        λ has. elim (more.0 (sym after ∙ has)) [ inl had ↦ inl (before ∙ had) | inr same ↦ inr (omega arith) ],
        λ either. elim either [ inl had ↦ after ∙ more.1 (inl (sym before ∙ had)) | inr same ↦ after ∙ more.1 (inr (omega arith)) ],
      )
]

-- of two bits, one is set or neither
max_one : (x y : ℕ) → x < 2 → y < 2 → (max x y ≡ 1) ↔ ((x ≡ 1) ⊎ (y ≡ 1))
max_one x y few_x few_y = (
  λ is. elim (cases_eq x 1) [ inl one ↦ inl one | inr apart ↦ inr (omega arith) ],
  λ either. elim either [ inl one ↦ omega arith | inr one ↦ omega arith ],
)

-- what stands in two sets together
or_has : (some others row : ℕ) → Has (bit_or some others) row ↔ (Has some row ⊎ Has others row)
or_has some others row = rw (bit_at_or some others row) (max_one (bit_at some row) (bit_at others row) (bit_at-lt some row) (bit_at-lt others row))

-- a set in two halves, each of which takes in that of another
pub both_have : (high low now high_other low_other other : ℕ) → high * 2 ^ 128 + low ≡ now → high_other * 2 ^ 128 + low_other ≡ other → low < 2 ^ 128 → low_other < 2 ^ 128 → (row : ℕ) → Has (bit_or high high_other * 2 ^ 128 + bit_or low low_other) row ↔ (Has now row ⊎ Has other row)
both_have high low now high_other low_other other is is_other fits fits_other row = elim (cases_lt row 128) [
  | inl below ↦ rw (low_bit (bit_or high high_other) (bit_or low low_other) _ row refl below, low_bit high low now row is below, low_bit high_other low_other other row is_other below) (or_has low low_other row)
  | inr above ↦ rw (high_bit (bit_or high high_other) (bit_or low low_other) _ row refl (or_lt 128 low low_other fits fits_other) above, high_bit high low now row is fits above, high_bit high_other low_other other row is_other fits_other above) (or_has high high_other (row - 128))
]

-- a set in which no value below a number stands has no bit there
none_there : (set end : ℕ) → members_below set end ≡ [] → (i : ℕ) → i < end → bit_at set i ≡ 0
none_there set end none i within = elim (cases_eq (bit_at set i) 1) [
  | inl one ↦ let stands : Member i (members_below set end) = Member-filter (λ v. eqb (bit_at set v) 1) (Member-range 0 end i (omega arith) (omega arith)) (eq-eqb (bit_at set i) 1 one) in
      let gone : Member i [] = subst (λ rows. Member i rows) none stands in elim gone [ ]
  | inr apart ↦ let few = bit_at-lt set i in omega arith
]

-- the number 0 is the set of no row, and no other is
pub empty_is : (set end : ℕ) → set < 2 ^ end → (set ≡ 0) ↔ (members_below set end ≡ [])
empty_is set end fits = (
  λ none. ap (λ n. members_below n end) none ∙ members_below_empty 0 end (λ i below. bit_at-zero i),
  λ none. same_from_bits_below end set 0 fits (omega arith) (λ i below. none_there set end none i below ∙ sym (bit_at-zero i)),
)

-- a set in two halves is that of no row where both halves are 0: where its low half is 0, where the high one is too
pub high_empty : (high low now : ℕ) → high * 2 ^ 128 + low ≡ now → high < 2 ^ 128 → low ≡ 0 → IsTrue (eqb high 0) ↔ (members_below now 256 ≡ [])
high_empty high low now is fits none =
    let law = empty_is now 256 (omega (arith, is, fits, none)) in (
      λ test. let zero_there : high ≡ 0 = eqb-true high 0 test in law.0 (omega (arith, is, none, zero_there)),
      λ empty. let zero_there = law.1 empty in eq-eqb high 0 (omega (arith, is, none, zero_there)),
    )

-- where the low half isn't 0, it isn't that of no row
pub low_empty : (high low now : ℕ) → high * 2 ^ 128 + low ≡ now → high < 2 ^ 128 → low < 2 ^ 128 → (low ≡ 0 → ⊥) → IsTrue (eqb low 0) ↔ (members_below now 256 ≡ [])
low_empty high low now is fits_high fits some =
    let law = empty_is now 256 (omega (arith, is, fits_high, fits)) in (
      λ test. absurd (some (eqb-true low 0 test)),
      λ empty. let zero_there = law.1 empty in absurd (some (omega (arith, is, zero_there))),
    )
