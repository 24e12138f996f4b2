-- How many values sets have.
use Rattle.std.proofs.Common.{◌≡◌, ℕ, ◌+◌, ◌<◌, ◌≤◌, eqb, Bool, true, false, cond, List, length, get_or, drop, ap, refl, arith}
use Rattle.std.specs.Int.{bit_at}
use Rattle.std.specs.List.{filter, range_with_len}
use Rattle.std.proofs.lemmas.List.{drop_more}
use Rattle.hk_text.specs.Sets.{members}
use Rattle.hk_prop.specs.Contents.{values_left}
use Rattle.hk_prop.proofs.ValueSets.{counted_fewer}

one_at_most : (b : Bool) → cond b 1 0 ≤ 1
one_at_most true = omega arith
one_at_most false = omega arith

-- a set has at most 128 values
pub members_few : (set : ℕ) → length (members set) ≤ 128
unfolding members
members_few set =
    let all : length (filter (λ x. true) (range_with_len 0 128)) ≡ 128 = refl in
    omega (arith, all, counted_fewer (λ x. eqb (bit_at set x) 1) (λ x. true) (range_with_len 0 128) (λ x m. one_at_most (eqb (bit_at set x) 1)))

-- the values of the sets from one on are its own and those of the sets after it
pub values_step : (sets : List ℕ) (i : ℕ) → i < length sets → values_left (drop i sets) ≡ length (members (get_or sets i 0)) + values_left (drop (i + 1) sets)
values_step sets i within = ap values_left (drop_more sets i 0 within)
