-- What `sum` and the objective accept.
use Rattle.std.proofs.Common.{◌≡◌, ◌↔◌, ℕ, ℤ, pos, neg_ℤ, zero, suc, ◌+◌, ◌*◌, ◌<◌, ◌≤◌, ◌≤ℤ◌, ◌<ℤ◌, ◌+ℤ◌, ◌*ℤ◌, slice_get, unwrap_or, List, [], ◌∷◌, length, drop, All, codes, arith, ap, ap₂, sym, refl, ◌∙◌, subst}
use Rattle.std.proofs.lemmas.Int.{ints}
use Rattle.std.proofs.Math.IntN.{*ℤ_comm, zero-*ℤ, suc_ℤ-*ℤ}
use Rattle.hk_kinds.specs.Limits.{clamped}
use Rattle.hk_spec.proofs.NodeValues.{num_value-item, num_value-number_param, num_value-times, num_value-value}
use Rattle.hk_spec.specs.Arguments.{IsCoefficient}
use Rattle.hk_spec.specs.Library.{weighted, sum_bound, objective_bound, list_named, number_named}
use Rattle.hk_spec.specs.Meanings.{LiesFrom, SumLies, weighted_sum}
use Rattle.hk_spec.specs.Runs.{Accepts, exact_down, exact_up}
use Rattle.hk_spec.specs.Settings.{item_of_argument, number_of_argument}
use Rattle.hk_spec.specs.Trees.{item, number_param, value}
use Rattle.hk_spec.specs.Values.{num_value}
use Rattle.hk_spec.specs.declared.arguments.Arg.{Arg}
use Rattle.hk_spec.specs.declared.arguments.Arg.TheVariants as argument
use Rattle.hk_lib.proofs.Totals.{IsOfWeights, IsSumming, total, total_of_weights, accepts_total, down_is, up_is, clamped_same, within_limit}
use Rattle.hk_lib.proofs.TotalSteps.{HasNumber, HasWeight, interval_state, interval_sums, min_state, min_sums}

-- the coefficient at a position, 0 past the last
abbrev pub coef_at : List ℤ → ℕ → ℤ
coef_at coefs position = unwrap_or (slice_get coefs position) (pos 0)

-- the weight of a value: its product with the coefficient of its position
abbrev pub products : List ℤ → ℕ → ℕ → ℤ
products coefs position v = coef_at coefs position *ℤ pos v

-- it is within the limits of coefficients
coef_small : (coefs : List ℤ) (position : ℕ) → All IsCoefficient coefs → IsCoefficient (coef_at coefs position)
coef_small [] position each = record { least = omega (arith, ints); most = omega (arith, ints) }
coef_small (coef ∷ coefs) zero each = each 0 coef (omega arith)
coef_small (coef ∷ coefs) (suc position) each = coef_small coefs position (λ k d below. each (suc k) d (omega arith))

-- the number is no greater in size than so many times a coefficient
record IsOfMillions (count : ℕ) (n : ℤ) : Type 0 where
  pub least : neg_ℤ (pos (1000000 * count)) ≤ℤ n
  pub most : n ≤ℤ pos (1000000 * count)

-- a multiple of a coefficient
times_small : (coef : ℤ) (count : ℕ) → IsCoefficient coef → IsOfMillions count (pos count *ℤ coef)
times_small coef zero h = record { least = omega (arith, ints, zero-*ℤ coef); most = omega (arith, ints, zero-*ℤ coef) }
times_small coef (suc count) h =
    let fewer = times_small coef count h in
    let step : pos (suc count) *ℤ coef ≡ pos count *ℤ coef +ℤ coef = suc_ℤ-*ℤ (pos count) coef in
    record { least = omega (arith, ints, fewer.least, h.least, step); most = omega (arith, ints, fewer.most, h.most, step) }

-- the product of a coefficient with a value is a weight
product_small : (coef : ℤ) (v : ℕ) → v < 128 → IsCoefficient coef → IsOfWeights 1 (coef *ℤ pos v)
product_small coef v small h =
    let size = times_small coef v h in
    let same = *ℤ_comm coef (pos v) in
    record { least = omega (arith, ints, size.least, same); most = omega (arith, ints, size.most, same) }

-- each weight is one, past the last coefficient too
products_are_weights : (coefs : List ℤ) → All IsCoefficient coefs → (position v : ℕ) → v < 128 → IsOfWeights 1 (products coefs position v)
products_are_weights coefs each position v small = product_small (coef_at coefs position) v small (coef_small coefs position each)

-- one coefficient more in front moves the positions by one
coef_later : (coef : ℤ) (coefs : List ℤ) (position : ℕ) → coef_at (coef ∷ coefs) (position + 1) ≡ coef_at coefs position
coef_later coef coefs position =
    let next : position + 1 ≡ suc position = omega arith in
    ap (coef_at (coef ∷ coefs)) next

total_later : (coef : ℤ) (coefs : List ℤ) (position : ℕ) (values : List ℕ) → total (products (coef ∷ coefs)) (position + 1) values ≡ total (products coefs) position values
total_later coef coefs position [] = refl
total_later coef coefs position (v ∷ values) =
    ap₂ (λ c rest. (c *ℤ pos v) +ℤ rest) (coef_later coef coefs position) (total_later coef coefs (position + 1) values)

-- no coefficients make no sum
total_of_none : (position : ℕ) (values : List ℕ) → total (products []) position values ≡ pos 0
total_of_none position [] = refl
total_of_none position (v ∷ values) =
    let product : products [] position v ≡ pos 0 = zero-*ℤ (pos v) in
    ap₂ (λ a b. a +ℤ b) product (total_of_none (position + 1) values)

-- the total of these weights is the sum of coefficient times value
pub total_is_sum : (coefs : List ℤ) (values : List ℕ) → total (products coefs) 0 values ≡ weighted_sum coefs values
total_is_sum [] values = total_of_none 0 values
total_is_sum (coef ∷ coefs) [] = refl
total_is_sum (coef ∷ coefs) (v ∷ values) =
    ap (λ rest. (coef *ℤ pos v) +ℤ rest) (total_later coef coefs 0 values ∙ total_is_sum coefs values)

-- and from a position on that with the coefficients from there on
pub total_from : (position : ℕ) (coefs : List ℤ) (values : List ℕ) → total (products coefs) position values ≡ weighted_sum (drop position coefs) values
total_from zero coefs values = total_is_sum coefs values
total_from (suc position) [] values = total_of_none (suc position) values
total_from (suc position) (coef ∷ coefs) values =
    let next : suc position ≡ position + 1 = omega arith in
    ap (λ at. total (products (coef ∷ coefs)) at values) next ∙ (total_later coef coefs position values ∙ total_from position coefs values)

-- the expression that both add is the product
weighted_is : (coefs : List ℤ) (others : List Arg) → All IsCoefficient coefs → HasWeight (argument.Nums coefs ∷ others) weighted (products coefs)
weighted_is coefs others each = λ at same small.
    let coef : num_value at (item 0) ≡ coef_at coefs at.position = num_value-item at 0 ∙ ap (λ args. item_of_argument (slice_get args 0) at.position) same in
    num_value-times at (item 0) value
    ∙ (ap₂ (λ c v. clamped (c *ℤ v)) coef (num_value-value at)
    ∙ clamped_same (products coefs at.position at.value) (within_limit 1 (products coefs at.position at.value) (omega arith) (products_are_weights coefs each at.position at.value small)))

-- the arguments of `sum`
abbrev sum_args : List ℤ → ℤ → ℤ → List Arg
sum_args coefs least most = argument.Nums coefs ∷ argument.Num least ∷ argument.Num most ∷ []

-- the two bounds are its second and third argument
sum_least_is : (coefs : List ℤ) (least most : ℤ) → HasNumber (sum_args coefs least most) (number_param 1) least
sum_least_is coefs least most = λ at same. num_value-number_param at 1 ∙ ap (λ args. number_of_argument (slice_get args 1)) same

sum_most_is : (coefs : List ℤ) (least most : ℤ) → HasNumber (sum_args coefs least most) (number_param 2) most
sum_most_is coefs least most = λ at same. num_value-number_param at 2 ∙ ap (λ args. number_of_argument (slice_get args 2)) same

-- `sum` and the objective sum these weights
sum_sums : (coefs : List ℤ) (least most best : ℤ) → All IsCoefficient coefs → IsSumming (sum_bound coefs least most) best (products coefs) interval_state (LiesFrom least most)
sum_sums coefs least most best each = interval_sums (codes "sum") (list_named (codes "k") ∷ number_named (codes "least") ∷ number_named (codes "most") ∷ []) (codes "s") (codes "u") weighted (number_param 1) (number_param 2) (sum_args coefs least most) (length coefs) least most best (products coefs) (products_are_weights coefs each) (weighted_is coefs _ each) (sum_least_is coefs least most) (sum_most_is coefs least most)

objective_sums : (coefs : List ℤ) (best : ℤ) → All IsCoefficient coefs → IsSumming (objective_bound coefs) best (products coefs) min_state (λ sum. sum <ℤ best)
objective_sums coefs best each = min_sums (codes "objective") (list_named (codes "k") ∷ []) (codes "o") (codes "p") weighted (argument.Nums coefs ∷ []) (length coefs) best (products coefs) (products_are_weights coefs each) (weighted_is coefs _ each)

-- their states are the sums over the earlier and over the later values
pub sum_down : (coefs : List ℤ) (least most : ℤ) (values : List ℕ) → All IsCoefficient coefs → length values ≤ 256 → All (λ v. v < 128) values → exact_down (sum_bound coefs least most) values ≡ interval_state (weighted_sum coefs values)
sum_down coefs least most values each few small = down_is (sum_sums coefs least most (pos 0) each) values few small ∙ ap interval_state (total_is_sum coefs values)

pub sum_up : (coefs : List ℤ) (least most : ℤ) (position : ℕ) (values : List ℕ) → All IsCoefficient coefs → length values ≤ 256 → All (λ v. v < 128) values → exact_up (sum_bound coefs least most) position values ≡ interval_state (weighted_sum (drop position coefs) values)
sum_up coefs least most position values each few small = up_is (sum_sums coefs least most (pos 0) each) position values few small ∙ ap interval_state (total_from position coefs values)

pub objective_down : (coefs : List ℤ) (values : List ℕ) → All IsCoefficient coefs → length values ≤ 256 → All (λ v. v < 128) values → exact_down (objective_bound coefs) values ≡ min_state (weighted_sum coefs values)
objective_down coefs values each few small = down_is (objective_sums coefs (pos 0) each) values few small ∙ ap min_state (total_is_sum coefs values)

pub objective_up : (coefs : List ℤ) (position : ℕ) (values : List ℕ) → All IsCoefficient coefs → length values ≤ 256 → All (λ v. v < 128) values → exact_up (objective_bound coefs) position values ≡ min_state (weighted_sum (drop position coefs) values)
objective_up coefs position values each few small = up_is (objective_sums coefs (pos 0) each) position values few small ∙ ap min_state (total_from position coefs values)

-- such a sum of at most 256 values is small
pub sum_is_small : (coefs : List ℤ) (values : List ℕ) → All IsCoefficient coefs → length values ≤ 256 → All (λ v. v < 128) values → LiesFrom (neg_ℤ (pos 32512000000)) (pos 32512000000) (weighted_sum coefs values)
sum_is_small coefs values each few small =
    let size : IsOfWeights (length values) (weighted_sum coefs values) = subst (IsOfWeights (length values)) (total_is_sum coefs values) (total_of_weights (objective_sums coefs (pos 0) each) 0 values small) in
    (omega (arith, ints, size.least), omega (arith, ints, size.most))

-- `sum` accepts the lists whose sum lies in its bounds
pub sum_by_total : (coefs : List ℤ) (least most best : ℤ) (values : List ℕ) → All IsCoefficient coefs → length values ≡ length coefs → 0 < length values → length values ≤ 256 → All (λ v. v < 128) values → Accepts (sum_bound coefs least most) best values ↔ SumLies coefs least most values
sum_by_total coefs least most best values each long some few small =
    let whole = accepts_total (sum_sums coefs least most best each) values some few small in
    let same = total_is_sum coefs values in
    (λ run. subst (LiesFrom least most) same (whole.0 run), λ lies. whole.1 (subst (LiesFrom least most) (sym same) lies))

-- the objective accepts the lists whose sum is below the bound
pub objective_by_total : (coefs : List ℤ) (best : ℤ) (values : List ℕ) → All IsCoefficient coefs → length values ≡ length coefs → 0 < length values → length values ≤ 256 → All (λ v. v < 128) values → Accepts (objective_bound coefs) best values ↔ (weighted_sum coefs values <ℤ best)
objective_by_total coefs best values each long some few small =
    let whole = accepts_total (objective_sums coefs best each) values some few small in
    let same = total_is_sum coefs values in
    (λ run. subst (λ n. n <ℤ best) same (whole.0 run), λ less. whole.1 (subst (λ n. n <ℤ best) (sym same) less))
