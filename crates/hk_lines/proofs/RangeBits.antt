-- A range of values as the bits of a number.
use Rattle.std.proofs.Common.{◌≡◌, ℕ, ◌+◌, ◌-◌, ◌*◌, ◌/◌, ◌%◌, ◌^◌, ◌<◌, ◌≤◌, min, bit_and, ap, ◌∙◌, arith}
use Rattle.std.proofs.Math.Pow.{pow-sub-lt, pow_pos}
use Rattle.std.proofs.lemmas.Nat.{and_le_r}
use Rattle.std.proofs.lemmas.Nat.Bits.{ones_shr, ones_shl, bit_at_and, bit_at_ones, bit_at_ones_above, bit_at_mask_inside, bit_at_mask_below}
use Rattle.hk_lines.specs.inside.Ranges.{IsRange}

-- a bit that two masks have in common stands in the range
in_range : (a b r first last value : ℕ) → r ≡ min a b → (last < value → a ≡ 0) → (value < first → b ≡ 0) → r ≡ 1 → (first ≤ value) × (value ≤ last)
in_range a b r first last value is high low one = (grind arith, grind arith)

both_ones : (a b r : ℕ) → r ≡ min a b → a ≡ 1 → b ≡ 1 → r ≡ 1
both_ones a b r is x y = omega arith

sub_below : (w first : ℕ) → 2 ^ w - 2 ^ first < 2 ^ w
sub_below w first = pow-sub-lt w (pow_pos first)

module _ (first last : ℕ) (within : last < 128) where
  -- the values up to the last, and those from the first on
  abbrev pub range_bits : ℕ
  range_bits = bit_and (2 ^ (last + 1) - 1) (2 ^ 128 - 2 ^ first)

  pub range_bits-IsRange : IsRange first last range_bits
  range_bits-IsRange = record {
    small = omega (arith, and_le_r (2 ^ (last + 1) - 1) (2 ^ 128 - 2 ^ first), sub_below 128 first);
    values = λ value.
        let common = bit_at_and (2 ^ (last + 1) - 1) (2 ^ 128 - 2 ^ first) value in (
          in_range _ _ _ first last value common (λ above. bit_at_ones_above (last + 1) value (omega arith)) (λ below. bit_at_mask_below first 128 value below),
          λ (from, to). both_ones _ _ _ common (bit_at_ones (last + 1) value (omega arith)) (bit_at_mask_inside first 128 value from (omega arith)),
        );
  }

  -- as shifts of all ones
  pub range_shifts : first ≤ last → bit_and ((2 ^ 128 - 1) / 2 ^ (127 - last)) ((2 ^ 128 - 1) * 2 ^ first % 2 ^ 128) ≡ range_bits
  range_shifts ordered =
      let exponent : 128 - (127 - last) ≡ last + 1 = omega arith in
      let low : (2 ^ 128 - 1) / 2 ^ (127 - last) ≡ 2 ^ (last + 1) - 1 = ones_shr 128 (127 - last) (omega arith) ∙ ap (λ k. 2 ^ k - 1) exponent in
      let high : (2 ^ 128 - 1) * 2 ^ first % 2 ^ 128 ≡ 2 ^ 128 - 2 ^ first = ones_shl 128 first (omega arith) in
      λ i. bit_and (low i) (high i)
