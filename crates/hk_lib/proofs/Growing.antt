-- The properties and the shifts of a window, one more at their end.
use Rattle.std.proofs.Common.{◌≡◌, ℕ, zero, suc, ◌+◌, List, [], ◌∷◌, ◌++◌, arith, sym, ap, ◌∙◌}
use Rattle.hk_spec.specs.Library.{interval_named, lag_name, lags_from, shifts_from}
use Rattle.hk_spec.specs.Trees.{low, high}
use Rattle.hk_spec.specs.declared.expressions.Side.TheVariants.{Down}
use Rattle.hk_spec.specs.declared.parts.PropDecl.{PropDecl}
use Rattle.hk_spec.specs.declared.parts.StepExpr.{StepExpr}
use Rattle.hk_spec.specs.declared.parts.StepExpr.TheVariants as step

-- one more property, and one more shift
one_more_lag : (from count : ℕ) → lags_from from (suc count) ≡ lags_from from count ++ interval_named (lag_name (from + count)) ∷ []
one_more_lag from zero =
    let same : from ≡ from + 0 = omega arith in
    ap (λ place. interval_named (lag_name place) ∷ []) same
one_more_lag from (suc count) =
    let same : from + 1 + count ≡ from + suc count = omega arith in
    ap (λ lags. interval_named (lag_name from) ∷ lags) (one_more_lag (from + 1) count ∙ ap (λ place. lags_from (from + 1) count ++ interval_named (lag_name place) ∷ []) same)

pub lags_grow : (lags : List PropDecl) (place : ℕ) → lags ≡ lags_from 0 place → lags ++ interval_named (lag_name place) ∷ [] ≡ lags_from 0 (place + 1)
lags_grow lags place so_far =
    let next : suc place ≡ place + 1 = omega arith in
    let here : 0 + place ≡ place = omega arith in
    ap (λ l. l ++ interval_named (lag_name place) ∷ []) so_far ∙ (ap (λ k. lags_from 0 place ++ interval_named (lag_name k) ∷ []) (sym here) ∙ (sym (one_more_lag 0 place) ∙ ap (lags_from 0) next))

one_more_shift : (from count : ℕ) → shifts_from from (suc count) ≡ shifts_from from count ++ step.Pair (low Down (from + count)) (high Down (from + count)) ∷ []
one_more_shift from zero =
    let same : from ≡ from + 0 = omega arith in
    ap (λ place. step.Pair (low Down place) (high Down place) ∷ []) same
one_more_shift from (suc count) =
    let same : from + 1 + count ≡ from + suc count = omega arith in
    ap (λ shifts. step.Pair (low Down from) (high Down from) ∷ shifts) (one_more_shift (from + 1) count ∙ ap (λ place. shifts_from (from + 1) count ++ step.Pair (low Down place) (high Down place) ∷ []) same)

pub shifts_grow : (steps : List StepExpr) (first : StepExpr) (place : ℕ) → steps ≡ first ∷ shifts_from 0 place → steps ++ step.Pair (low Down place) (high Down place) ∷ [] ≡ first ∷ shifts_from 0 (place + 1)
shifts_grow steps first place so_far =
    let next : suc place ≡ place + 1 = omega arith in
    let here : 0 + place ≡ place = omega arith in
    ap (λ l. l ++ step.Pair (low Down place) (high Down place) ∷ []) so_far ∙ ap (λ shifts. first ∷ shifts) (ap (λ k. shifts_from 0 place ++ step.Pair (low Down k) (high Down k) ∷ []) (sym here) ∙ (sym (one_more_shift 0 place) ∙ ap (shifts_from 0) next))
