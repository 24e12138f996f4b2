-- How many values are in a set, and how often one occurs.
use Rattle.std.proofs.Common.{◌≡◌, ℕ, suc, ◌+◌, ◌<◌, ◌≤◌, ℤ, pos, List, [], ◌∷◌, length, get_or, drop, slice_index, arith, subst}
use Rattle.std.specs.Int.{bit_at}
use Rattle.std.proofs.lemmas.Grind.{common_steps}
use Rattle.std.proofs.lemmas.List.{at_drop_more, length-map}
use Rattle.std.proofs.lemmas.Nat.Bits.{bit_at-lt}
use Rattle.hk_spec.specs.Meanings.{LiesFrom, count_in, occurrences}
use Rattle.hk_group.specs.Solutions.{scope_values}

-- no more values are in a set than there are
pub count_in-most : (set : ℕ) (values : List ℕ) → count_in set values ≤ length values
count_in-most set [] = omega arith
count_in-most set (value ∷ values) = let more = count_in-most set values in let one = bit_at-lt set value in omega arith

-- a count of some values of a scope, with that of one more, is no more than the scope has variables
pub count_in-room : (set : ℕ) (scope values : List ℕ) (i count next : ℕ) → i < length scope → length scope ≤ 256
    → count_in set (scope_values scope values) ≡ count + count_in set (scope_values (drop i scope) values)
    → next ≡ bit_at set (slice_index values (get_or scope i 0)) → count + next ≤ 256
count_in-room set scope values i count next within few whole is =
    let more : count_in set (scope_values (drop i scope) values) ≡ bit_at set (slice_index values (get_or scope i 0)) + count_in set (scope_values (drop (i + 1) scope) values)
    = at_drop_more (λ (left : List ℕ). count_in set (scope_values left values)) scope i 0 within in
    let most = count_in-most set (scope_values scope values) in
    let long : length (scope_values scope values) ≡ length scope = length-map scope (λ variable. slice_index values variable) in
    omega arith

-- a value occurs no more often than there are values
occurrences-most : (value : ℕ) (values : List ℕ) → occurrences value values ≤ length values
occurrences-most value [] = omega arith
occurrences-most value (other ∷ others) = let more = occurrences-most value others in grind (arith, common_steps)

-- it occurs once more where it comes first
occurrences-same : (value : ℕ) (others : List ℕ) → occurrences value (value ∷ others) ≡ suc (occurrences value others)
occurrences-same value others = grind (arith, common_steps)

-- a number that lies within bounds lies within equal ones
pub lies_same : {least most least' most' : ℤ} {n n' : ℕ} → least' ≡ least → most' ≡ most → n' ≡ n → LiesFrom least' most' (pos n') → LiesFrom least most (pos n)
lies_same {least} {most} {least'} {most'} {n} {n'} l m same lies =
    subst (λ z. LiesFrom z most (pos n)) l (subst (λ z. LiesFrom least' z (pos n)) m (subst (λ k. LiesFrom least' most' (pos k)) same lies))

-- of each value, so many as counted are among the values that aren't left
pub record Counted (whole left counts : List ℕ) : Type 0 where
  pub long : length counts ≡ 128
  pub each : (value : ℕ) → value < 128 → occurrences value whole ≡ slice_index counts value + occurrences value left

-- a value that is left was counted less often than there are values
pub Counted-room : (whole left counts : List ℕ) (other : ℕ) → Counted whole (other ∷ left) counts → other < 128 → slice_index counts other + 1 ≤ length whole
Counted-room whole left counts other counted small =
    let sum = counted.each other small in
    let most = occurrences-most other whole in
    let here = occurrences-same other left in
    omega arith
