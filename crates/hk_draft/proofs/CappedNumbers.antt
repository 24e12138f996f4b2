-- Numbers within a limit are the same when they are capped.
use Rattle.std.proofs.Common.{◌≡◌, ℕ, suc, zero, ◌<◌, ◌≤◌, ℤ, pos, negsuc, neg_ℤ, ◌≤ℤ◌, ⊎_elim, List, [], ◌∷◌, map, refl, ap, arith}
use Rattle.std.specs.Prelude.{All}
use Rattle.std.proofs.Math.Nat.{min-eq_left, min-eq_right}
use Rattle.std.proofs.lemmas.Bool.{cases_lt}
use Rattle.std.proofs.lemmas.Int.{ints}
use Rattle.std.proofs.lemmas.List.Elements.{All-head, All-tail}
use Rattle.hk_group.specs.Limits.{value_count}
use Rattle.hk_group.specs.Problems.{IsWithin}
use Rattle.hk_lines.specs.Limits.{above_limits}
use Rattle.hk_lines.specs.Phrases.{Values}
use Rattle.hk_lines.specs.Shapes.{capped, capped_signed, capped_values}

-- a number whose cap is below the cap is the same
pub same_small : (n limit : ℕ) → capped n ≤ limit → limit < above_limits → capped n ≡ n
same_small n limit small below = ⊎_elim (λ less. min-eq_left (omega (arith, less))) (λ le. absurd (over (min-eq_right le))) (cases_lt n above_limits)
  where
    over : capped n ≡ above_limits → ⊥
    over is = omega (arith, is, small, below)

-- a number within a limit is the same when it is capped
pub kept_small : (n limit : ℕ) → n ≤ limit → limit < above_limits → capped n ≡ n
kept_small n limit small below = min-eq_left (omega (arith, small, below))

-- the same for the size of a number with a sign: its cap is within a limit below the cap, or the number is
pub same_signed : (z : ℤ) (limit : ℕ) → limit < above_limits → IsWithin (pos limit) (capped_signed z) → capped_signed z ≡ z
same_signed (pos n) limit below within = ap pos (same_small n limit (let high = within.below in omega (arith, high, ints)) below)
same_signed (negsuc n) limit below within = ap (λ m. neg_ℤ (pos m)) (same_small (suc n) limit (small (capped (suc n)) within.above) below)
  where
    small : (m : ℕ) → neg_ℤ (pos limit) ≤ℤ neg_ℤ (pos m) → m ≤ limit
    small zero low = omega arith
    small (suc m) low = omega (arith, low, ints)

pub kept_signed : (z : ℤ) (limit : ℕ) → limit < above_limits → IsWithin (pos limit) z → capped_signed z ≡ z
kept_signed (pos n) limit below within = ap pos (kept_small n limit (let high = within.below in omega (arith, high, ints)) below)
kept_signed (negsuc n) limit below within = ap (λ m. neg_ℤ (pos m)) (kept_small (suc n) limit (let low = within.above in omega (arith, low, ints)) below)

-- values within the limits are the same when they are capped
pub same_set : (set : List Values) → All (λ values. values.first ≤ values.last) (map capped_values set) → All (λ values. values.last < value_count) (map capped_values set) → map capped_values set ≡ set
same_set [] ordered within = refl
same_set (values ∷ set) ordered within =
    let rest = same_set set (All-tail (λ values. values.first ≤ values.last) (capped_values values) (map capped_values set) ordered) (All-tail (λ values. values.last < value_count) (capped_values values) (map capped_values set) within) in
    let order : capped values.first ≤ capped values.last = All-head (λ values. values.first ≤ values.last) (capped_values values) (map capped_values set) ordered in
    let small : capped values.last < value_count = All-head (λ values. values.last < value_count) (capped_values values) (map capped_values set) within in
    let first : capped values.first ≡ values.first = same_small values.first 127 (omega (arith, order, small)) (omega arith) in
    let last : capped values.last ≡ values.last = same_small values.last 127 (omega (arith, small)) (omega arith) in
    let item : capped_values values ≡ values = λ i. record { first = first i; last = last i } in
    λ i. item i ∷ rest i

pub kept_set : (set : List Values) → All (λ values. values.first ≤ values.last) set → All (λ values. values.last < value_count) set → map capped_values set ≡ set
kept_set [] ordered within = refl
kept_set (values ∷ set) ordered within =
    let rest = kept_set set (All-tail (λ values. values.first ≤ values.last) values set ordered) (All-tail (λ values. values.last < value_count) values set within) in
    let order : values.first ≤ values.last = All-head (λ values. values.first ≤ values.last) values set ordered in
    let small : values.last < value_count = All-head (λ values. values.last < value_count) values set within in
    let first : capped values.first ≡ values.first = kept_small values.first 127 (omega (arith, order, small)) (omega arith) in
    let last : capped values.last ≡ values.last = kept_small values.last 127 (omega (arith, small)) (omega arith) in
    let item : capped_values values ≡ values = λ i. record { first = first i; last = last i } in
    λ i. item i ∷ rest i

-- a function leaves a list the same where it does so with each element of which something holds, once the function is applied to it or before
pub map_same : {X : Type 0} (P : X → Type 0) (f : X → X) → ((x : X) → P (f x) → f x ≡ x) → (xs : List X) → All P (map f xs) → map f xs ≡ xs
map_same P f same [] all = refl
map_same P f same (x ∷ xs) all =
    let first = same x (All-head P (f x) (map f xs) all) in
    let rest = map_same P f same xs (All-tail P (f x) (map f xs) all) in
    λ i. first i ∷ rest i

pub map_kept : {X : Type 0} (P : X → Type 0) (f : X → X) → ((x : X) → P x → f x ≡ x) → (xs : List X) → All P xs → map f xs ≡ xs
map_kept P f same [] all = refl
map_kept P f same (x ∷ xs) all =
    let first = same x (All-head P x xs all) in
    let rest = map_kept P f same xs (All-tail P x xs all) in
    λ i. first i ∷ rest i
