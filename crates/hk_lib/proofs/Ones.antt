-- How many values a set has, where it gets one more.
use Rattle.std.proofs.Common.{◌≡◌, ℕ, zero, suc, ◌+◌, ◌*◌, ◌/◌, ◌%◌, ◌^◌, bit_and, bit_or, count_ones, arith, sym, ap, ◌∙◌, pow-suc, zero-mul}
use Rattle.std.proofs.lemmas.Nat.{or_disjoint, ones_le_self}
use Rattle.std.proofs.lemmas.Nat.Bits.{and_pow, bit_at-suc, bit_at_lowest}
use Rattle.std.specs.Int.Count.{ones_step}
use Rattle.std.specs.Int.{bit_at}

-- the empty set has no values
pub ones_none : count_ones 0 ≡ 0
ones_none = omega (arith, ones_le_self 0)

-- a number that lacks a digit has one more where it is added
ones_added : (v set : ℕ) → bit_at set v ≡ 0 → count_ones (set + 2 ^ v) ≡ count_ones set + 1
ones_added zero set lacks =
    let even : set % 2 ≡ 0 = sym (bit_at_lowest set) ∙ lacks in
    let half : (set + 2 ^ 0) / 2 ≡ set / 2 = omega arith in
    let same : count_ones ((set + 2 ^ 0) / 2) ≡ count_ones (set / 2) = ap count_ones half in
    let more = ones_step (set + 2 ^ 0) in
    let less = ones_step set in
    omega arith
ones_added (suc v) set lacks =
    let later : bit_at (set / 2) v ≡ 0 = sym (bit_at-suc set v) ∙ lacks in
    let half : (set + 2 ^ suc v) / 2 ≡ set / 2 + 2 ^ v = omega (arith, pow-suc 2 v) in
    let last : (set + 2 ^ suc v) % 2 ≡ set % 2 = omega (arith, pow-suc 2 v) in
    let same : count_ones ((set + 2 ^ suc v) / 2) ≡ count_ones (set / 2) + 1 = ap count_ones half ∙ ones_added v (set / 2) later in
    let more = ones_step (set + 2 ^ suc v) in
    let less = ones_step set in
    omega arith

-- a set with a value that it lacks has one value more
pub ones_with : (v set : ℕ) → bit_at set v ≡ 0 → count_ones (bit_or set (2 ^ v)) ≡ count_ones set + 1
ones_with v set lacks =
    let apart : bit_and set (2 ^ v) ≡ 0 = and_pow set v ∙ (ap (λ n. n * 2 ^ v) lacks ∙ zero-mul (2 ^ v)) in
    ap count_ones (or_disjoint set (2 ^ v) apart) ∙ ones_added v set lacks
