-- Sums of products, product by product.
use Rattle.std.proofs.Common.{◌≡◌, ℕ, ℤ, pos, ◌+ℤ◌, ◌*ℤ◌, List, [], ◌∷◌, length, ◌⊎◌, inl, inr, slice_index, ap, sym, ◌∙◌, refl}
use Rattle.std.proofs.Math.IntN.{+ℤ_assoc, +ℤ_idl, +ℤ_idr}
use Rattle.std.proofs.lemmas.List.{nil_from_length}
use Rattle.hk_spec.specs.Meanings.{weighted_sum}
use Rattle.hk_group.specs.Solutions.{linear_value}

-- no values, no sum
weighted_sum-nil : (coefs : List ℤ) → weighted_sum coefs [] ≡ pos 0
weighted_sum-nil [] = refl
weighted_sum-nil (coef ∷ coefs) = refl

-- the sum ends where the scope ends, and where the coefficients end
pub linear_value-end : (scope : List ℕ) (coefs : List ℤ) (values : List ℕ) → (length scope ≡ 0) ⊎ (length coefs ≡ 0) → linear_value scope coefs values ≡ pos 0
linear_value-end scope coefs values (inl ended) = ap (λ rest. linear_value rest coefs values) (nil_from_length scope ended) ∙ weighted_sum-nil coefs
linear_value-end scope coefs values (inr ended) = ap (λ rest. linear_value scope rest values) (nil_from_length coefs ended)

-- one product more of a sum
pub linear_value-more : (whole sum : ℤ) (scope more : List ℕ) (coefs rest : List ℤ) (variable : ℕ) (coef : ℤ) (values : List ℕ)
    → whole ≡ sum +ℤ linear_value scope coefs values → scope ≡ variable ∷ more → coefs ≡ coef ∷ rest
    → whole ≡ (sum +ℤ coef *ℤ pos (slice_index values variable)) +ℤ linear_value more rest values
linear_value-more whole sum scope more coefs rest variable coef values so_far scoped coefficients =
    so_far
    ∙ ap (λ z. sum +ℤ z) (ap (λ all. linear_value all coefs values) scoped ∙ ap (λ all. linear_value (variable ∷ more) all values) coefficients)
    ∙ sym (+ℤ_assoc sum (coef *ℤ pos (slice_index values variable)) (linear_value more rest values))

-- nothing is left of a sum
pub linear_value-whole : (whole sum : ℤ) (scope : List ℕ) (coefs : List ℤ) (values : List ℕ)
    → whole ≡ sum +ℤ linear_value scope coefs values → (length scope ≡ 0) ⊎ (length coefs ≡ 0) → sum ≡ whole
linear_value-whole whole sum scope coefs values so_far ended = sym (so_far ∙ ap (λ z. sum +ℤ z) (linear_value-end scope coefs values ended) ∙ +ℤ_idr sum)

-- nothing is added of a sum yet
pub linear_value-start : (scope same_scope : List ℕ) (coefs same_coefs : List ℤ) (values : List ℕ) → same_scope ≡ scope → same_coefs ≡ coefs
    → linear_value scope coefs values ≡ pos 0 +ℤ linear_value same_scope same_coefs values
linear_value-start scope same_scope coefs same_coefs values scoped coefficients =
    ap (λ all. linear_value all coefs values) (sym scoped) ∙ ap (λ all. linear_value same_scope all values) (sym coefficients) ∙ sym (+ℤ_idl (linear_value same_scope same_coefs values))
