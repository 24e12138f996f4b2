-- How great a sum of products gets.
use Rattle.std.proofs.Common.{◌≡◌, ℕ, zero, suc, ◌*◌, ◌<◌, ◌≤◌, ℤ, pos, neg_ℤ, ◌+ℤ◌, ◌-ℤ◌, ◌*ℤ◌, ◌≤ℤ◌, FitsSigned, to_z, of_z, List, [], ◌∷◌, length, slice_index, arith, add-one, sym, subst, ◌∙◌, ap, mul-le-mul}
use Rattle.std.specs.Int.{w64}
use Rattle.std.specs.List.Sorted.{IsStrictlyIncreasing}
use Rattle.std.proofs.Math.IntN.{negsuc, pos-*ℤ-pos, negsuc-*ℤ-pos}
use Rattle.std.proofs.lemmas.Int.{ints, to_z-of_z}
use Rattle.hk_base.specs.Limits.{number_limit}
use Rattle.hk_group.specs.Limits.{greatest_coefficient}
use Rattle.hk_group.specs.Problems.{IsScope, IsWithin}

-- a scope's variable at a place is no less than the place
place_below : (scope : List ℕ) → IsStrictlyIncreasing scope → (k : ℕ) → k < length scope → k ≤ slice_index scope k
place_below scope rising zero within = omega arith
place_below scope rising (suc k) within =
    let before = place_below scope rising k (omega arith) in
    let next : slice_index scope k < slice_index scope (suc k) = subst (λ j. slice_index scope k < slice_index scope j) (add-one k) (rising k (omega arith)) in
    omega arith

-- a scope has no more variables than there are
pub scope_short : (variables : ℕ) (scope : List ℕ) → IsScope variables scope → length scope ≤ variables
scope_short variables [] is = omega arith
scope_short variables (first ∷ more) is =
    let last = place_below (first ∷ more) is.rising (length more) (omega arith) in
    let below : slice_index (first ∷ more) (length more) < variables = is.declared (length more) 0 (omega arith) in
    omega arith

-- so many products at most may still be added to a sum
pub record HasRoom (sum : ℤ) (left : ℕ) : Type 0 where
  pub above : neg_ℤ (pos 32512000000) ≤ℤ (sum -ℤ pos (127000000 * left))
  pub below : (sum +ℤ pos (127000000 * left)) ≤ℤ pos 32512000000

-- all products of a scope may be added to nothing
pub HasRoom-nothing : (left : ℕ) → left ≤ 256 → HasRoom (pos 0) left
HasRoom-nothing left few = record { above = omega (arith, ints); below = omega (arith, ints) }

-- a number within the limit is what it is in 64 bits
pub within_same : (n : ℤ) → IsWithin number_limit n → to_z w64 (of_z w64 n) ≡ n
within_same n within = to_z-of_z w64 n (let above = within.above in let below = within.below in omega (arith, ints))

-- a coefficient times a value
product_within : (coef : ℤ) (value : ℕ) → IsWithin greatest_coefficient coef → value < 128 → IsWithin (pos 127000000) (coef *ℤ pos value)
product_within (pos n) value within small =
    let size : n * value ≤ 1000000 * 127 = mul-le-mul {n₁ = n} {m₁ = value} {n₂ = 1000000} {m₂ = 127} (let below : pos n ≤ℤ pos 1000000 = within.below in omega (arith, ints)) (omega arith) in
    subst (IsWithin (pos 127000000)) (sym (pos-*ℤ-pos n value)) (record { above = omega (arith, ints); below = omega (arith, ints) })
product_within (negsuc n) value within small =
    let size : suc n * value ≤ 1000000 * 127 = mul-le-mul {n₁ = suc n} {m₁ = value} {n₂ = 1000000} {m₂ = 127} (let above : neg_ℤ (pos 1000000) ≤ℤ negsuc n = within.above in omega (arith, ints)) (omega arith) in
    subst (IsWithin (pos 127000000)) (sym (negsuc-*ℤ-pos n value)) (record { above = omega (arith, ints); below = omega (arith, ints) })

-- a sum with one product more has room for one less
HasRoom-more : (sum product : ℤ) (left : ℕ) → HasRoom sum (suc left) → IsWithin (pos 127000000) product → HasRoom (sum +ℤ product) left
HasRoom-more sum product left room size =
    let least = room.above in
    let most = room.below in
    let low = size.above in
    let high = size.below in
    record { above = omega (arith, ints); below = omega (arith, ints) }

-- a sum that has room fits 64 bits
HasRoom-fits : (sum : ℤ) (left : ℕ) → HasRoom sum left → FitsSigned w64 sum
HasRoom-fits sum left room =
    let least = room.above in
    let most = room.below in
    omega (arith, ints)

-- one product more, as it is computed in 64 bits
pub record IsTurn (sum coef factor : ℤ) (value left : ℕ) : Type 0 where
  pub product_fits : FitsSigned w64 (to_z w64 (of_z w64 coef) *ℤ to_z w64 (of_z w64 factor))
  pub sum_fits : FitsSigned w64 (sum +ℤ to_z w64 (of_z w64 (to_z w64 (of_z w64 coef) *ℤ to_z w64 (of_z w64 factor))))
  pub is : to_z w64 (of_z w64 (sum +ℤ to_z w64 (of_z w64 (to_z w64 (of_z w64 coef) *ℤ to_z w64 (of_z w64 factor))))) ≡ sum +ℤ coef *ℤ pos value
  pub room : HasRoom (sum +ℤ coef *ℤ pos value) left

-- each turn of a sum fits
pub turn_fits : (sum coef factor : ℤ) (value left : ℕ) → HasRoom sum (suc left) → IsWithin greatest_coefficient coef → value < 128 → factor ≡ pos value → IsTurn sum coef factor value left
turn_fits sum coef factor value left room within small same = record {
  product_fits = subst (FitsSigned w64) (sym product_is) product_fits;
  sum_fits = subst (FitsSigned w64) (sym sum_is) sum_fits;
  is = ap (λ z. to_z w64 (of_z w64 z)) sum_is ∙ to_z-of_z w64 (sum +ℤ coef *ℤ pos value) sum_fits;
  room = more;
}
  where
    size : IsWithin (pos 127000000) (coef *ℤ pos value)
    size = product_within coef value within small

    product_fits : FitsSigned w64 (coef *ℤ pos value)
    product_fits = let above = size.above in let below = size.below in omega (arith, ints)

    coef_is : to_z w64 (of_z w64 coef) ≡ coef
    coef_is = to_z-of_z w64 coef (let above = within.above in let below = within.below in omega (arith, ints))

    factor_is : to_z w64 (of_z w64 factor) ≡ pos value
    factor_is = ap (λ z. to_z w64 (of_z w64 z)) same ∙ to_z-of_z w64 (pos value) (omega (arith, ints))

    product_is : to_z w64 (of_z w64 coef) *ℤ to_z w64 (of_z w64 factor) ≡ coef *ℤ pos value
    product_is = ap (λ z. z *ℤ to_z w64 (of_z w64 factor)) coef_is ∙ ap (λ z. coef *ℤ z) factor_is

    sum_is : sum +ℤ to_z w64 (of_z w64 (to_z w64 (of_z w64 coef) *ℤ to_z w64 (of_z w64 factor))) ≡ sum +ℤ coef *ℤ pos value
    sum_is = ap (λ z. sum +ℤ to_z w64 (of_z w64 z)) product_is ∙ ap (λ z. sum +ℤ z) (to_z-of_z w64 (coef *ℤ pos value) product_fits)

    more : HasRoom (sum +ℤ coef *ℤ pos value) left
    more = HasRoom-more sum (coef *ℤ pos value) left room size

    sum_fits : FitsSigned w64 (sum +ℤ coef *ℤ pos value)
    sum_fits = HasRoom-fits (sum +ℤ coef *ℤ pos value) left more
