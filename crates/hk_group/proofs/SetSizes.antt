-- How many values a set has: as many as its number has digits 1.
use Rattle.std.proofs.Common.{◌≡◌, ℕ, ◌^◌, ◌<◌, ◌≤◌, ◌==◌, false, cond, map, length, inl, inr, sym, ◌∙◌, ap, subst, arith}
use Rattle.std.specs.Int.{bit_at}
use Rattle.std.specs.Int.Count.{ones}
use Rattle.std.specs.List.{range_with_len}
use Rattle.std.specs.Simd.Lanes.{mask_l}
use Rattle.std.proofs.lemmas.Bool.{cases_eq, eq-eqb, ne_eqb}
use Rattle.std.proofs.lemmas.List.FromFn.{get_or-map-range_with_len, length-map-range_with_len, length-range_with_len}
use Rattle.std.proofs.lemmas.List.Sums.{count_by-le-length, length-filter}
use Rattle.std.proofs.lemmas.Nat.{zero_from_ones}
use Rattle.std.proofs.lemmas.Nat.Bits.{bit_at-lt, bit_at-zero, same_from_bits_below}
use Rattle.std.proofs.lemmas.Simd.{bit_mask_l, mask_l-lt, ones-mask_l}
use Rattle.hk_base.specs.Sets.{Has}
use Rattle.hk_text.specs.Sets.{members, members_below}

-- a digit is 1 or 0
digit : (bit : ℕ) → bit < 2 → cond (bit == 1) 1 0 ≡ bit
digit bit within = elim (cases_eq bit 1) [
  | inl one ↦ ap (λ b. cond b 1 0) (eq-eqb bit 1 one) ∙ sym one
  | inr apart ↦ ap (λ b. cond b 1 0) (ne_eqb bit 1 apart) ∙ omega arith
]

members_below-ones : (set n : ℕ) → set < 2 ^ n → length (members_below set n) ≡ ones set
members_below-ones set n small =
    let has = λ (value : ℕ). bit_at set value == 1 in
    let values = range_with_len 0 n in
    let flags = map has values in
    let short : mask_l flags < 2 ^ n = subst (λ k. mask_l flags < 2 ^ k) (length-map-range_with_len has 0 n) (mask_l-lt flags) in
    let same : mask_l flags ≡ set = same_from_bits_below n (mask_l flags) set short small
    (λ i within. bit_mask_l flags i ∙ ap (λ b. cond b 1 0) (get_or-map-range_with_len has 0 n i i false within (omega arith)) ∙ digit (bit_at set i) (bit_at-lt set i)) in
    length-filter has values ∙ sym (ones-mask_l has values) ∙ ap ones same

pub members-ones : (set : ℕ) → set < 2 ^ 128 → length (members set) ≡ ones set
unfolding members
members-ones set small = members_below-ones set 128 small

-- a set has at most 128 values
members_below-few : (set n : ℕ) → length (members_below set n) ≤ n
members_below-few set n =
    let has = λ (value : ℕ). bit_at set value == 1 in
    omega (arith, length-filter has (range_with_len 0 n), count_by-le-length has (range_with_len 0 n), length-range_with_len 0 n)

pub members-few : (set : ℕ) → length (members set) ≤ 128
unfolding members
members-few set = members_below-few set 128

-- a set that has a value has some
pub members-some : (set value : ℕ) → set < 2 ^ 128 → Has set value → 0 < length (members set)
members-some set value small has = elim (cases_eq (length (members set)) 0) [
  | inl none ↦
      let empty : set ≡ 0 = zero_from_ones set (sym (members-ones set small) ∙ none) in
      let lacks : bit_at set value ≡ 0 = ap (λ n. bit_at n value) empty ∙ bit_at-zero value in
      absurd (omega (arith, has, lacks))
  | inr apart ↦ omega arith
]
