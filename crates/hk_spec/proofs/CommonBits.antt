-- The digits that a set shares with the set of one value.
use Rattle.std.proofs.Common.{◌≡◌, ℕ, zero, suc, ◌+◌, ◌*◌, ◌/◌, ◌%◌, ◌^◌, ◌<◌, bit_and, count_ones, inl, inr, arith, ap, ap₂, refl, ◌∙◌}
use Rattle.std.proofs.lemmas.Bool.Decides.{eqb_tells}
use Rattle.std.proofs.lemmas.Nat.Bits.{bit_at_and, bit_at-lt, bit_at-pow_same, bit_at-pow_other, bit_at-zero, same_from_bits}
use Rattle.std.proofs.lemmas.Nat.{ones_le_self}
use Rattle.std.proofs.Math.Nat.{pow-suc, pow-zero}
use Rattle.std.specs.Int.{bit_at}
use Rattle.std.specs.Int.Count.{ones_step}

-- the values common to a set and the set of one value: none, or that one
common_bit : (set v i : ℕ) → bit_at (bit_and (2 ^ v) set) i ≡ bit_at set v * bit_at (2 ^ v) i
common_bit set v i = elim (eqb_tells i v) [
  | inl h ↦ grind (arith, bit_at_and (2 ^ v) set v, bit_at-pow_same v, bit_at-lt set v, h.1)
  | inr h ↦ grind (arith, bit_at_and (2 ^ v) set i, bit_at-pow_other v i h.1, bit_at-lt set v)
]

-- none of the digits of 0 is set
no_ones : count_ones 0 ≡ 0
no_ones = omega (arith, ones_le_self 0)

-- a power of two has one digit that is set
pub ones_of_power : (v : ℕ) → count_ones (2 ^ v) ≡ 1
ones_of_power zero =
    let step : count_ones 1 ≡ 1 + count_ones 0 = ones_step 1 in
    ap count_ones (pow-zero 2) ∙ omega (arith, step, no_ones)
ones_of_power (suc v) =
    let before = ones_of_power v in
    let step = ones_step (2 ^ suc v) in
    let double : 2 ^ suc v ≡ 2 ^ v * 2 = pow-suc 2 v in
    let low : 2 ^ suc v % 2 ≡ 0 = omega (arith, double) in
    let half : 2 ^ suc v / 2 ≡ 2 ^ v = omega (arith, double) in
    step ∙ (ap₂ (λ x y. x + count_ones y) low half ∙ omega (arith, before))

-- the same as below, by the two values of the bit
ones_by_bit : (set v bit : ℕ) → bit_at set v ≡ bit → bit < 2 → count_ones (bit_and (2 ^ v) set) ≡ bit
ones_by_bit set v zero is below =
    ap count_ones (same_from_bits (bit_and (2 ^ v) set) 0 (λ i. omega (arith, common_bit set v i ∙ ap (λ b. b * bit_at (2 ^ v) i) is, bit_at-zero i))) ∙ no_ones
ones_by_bit set v (suc zero) is below =
    ap count_ones (same_from_bits (bit_and (2 ^ v) set) (2 ^ v) (λ i. omega (arith, common_bit set v i ∙ ap (λ b. b * bit_at (2 ^ v) i) is))) ∙ ones_of_power v
ones_by_bit set v (suc (suc bit)) is below = absurd (omega arith)

-- how many values a set and the set of one value share is the bit of that value
pub ones_of_common : (set v : ℕ) → count_ones (bit_and (2 ^ v) set) ≡ bit_at set v
ones_of_common set v = ones_by_bit set v (bit_at set v) refl (bit_at-lt set v)
