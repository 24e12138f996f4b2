-- A step among the candidates for steps.
use Rattle.std.proofs.Common.{◌≡◌, ◌<◌, ◌≤◌, ◌==◌, ◌+◌, ◌⊎◌, inl, inr, ℕ, Bool, true, false, List, [], length, slice_index_or, refl, sym, ◌∙◌, ap, subst, arith}
use Rattle.std.specs.Ordering.{ordering_index}
use Rattle.std.specs.declared.cmp.Ordering.{Ordering}
use Rattle.std.specs.declared.cmp.Ordering.TheVariants.{Less, Equal, Greater}
use Rattle.std.proofs.lemmas.Bool.{cases_lt}
use Rattle.std.proofs.lemmas.Cmp.{tied_itself}
use Rattle.hk_kinds.proofs.StateOrder.{state_apart, state_total}
use Rattle.hk_kinds.specs.Orders.{state_order}
use Rattle.hk_kinds.specs.declared.properties.Prop.{Prop}
use Rattle.hk_layers.specs.inside.Marked.{IsAt}

-- an order that has the number of the equal one is that
equal_index : (order : Ordering) → (ordering_index order == 1) ≡ true → order ≡ Equal
equal_index Less h = cc
equal_index Equal h = refl
equal_index Greater h = cc

-- states in which the order finds no difference are the same, and no others
pub is_equal : (other step : List Prop) (order : Ordering) (flag : Bool) → order ≡ state_order other step → flag ≡ (ordering_index order == 1) → flag ≡ true → other ≡ step
is_equal other step order flag ordered flagged is = state_apart other step (sym ordered ∙ equal_index order (sym flagged ∙ is))

pub told_apart : (candidates : List (List Prop)) (number : ℕ) (other step : List Prop) (order : Ordering) (flag : Bool) → other ≡ slice_index_or candidates number [] → order ≡ state_order other step → flag ≡ (ordering_index order == 1) → flag ≡ false → IsAt candidates step number → ⊥
told_apart candidates number other step order flag read ordered flagged not at =
    let same : other ≡ step = read ∙ at.same in
    let tied : order ≡ Equal = ordered ∙ (ap (λ state. state_order state step) same ∙ tied_itself state_total step) in
    let both : true ≡ false = ap (λ o. ordering_index o == 1) (sym tied) ∙ (sym flagged ∙ not) in
    cc

-- none from one number on to another is the step: nor is it with one that isn't, nor at any place that is not there
here_or_before : (candidates : List (List Prop)) (step : List Prop) (next number : ℕ) → (number < next → ⊥) → (IsAt candidates step next → ⊥) → number < next + 1 → IsAt candidates step number → (number < next) ⊎ (next ≤ number) → ⊥
here_or_before candidates step next number before here to at (inl lt) = before lt
here_or_before candidates step next number before here to at (inr le) = here (subst (IsAt candidates step) (omega arith) at)

pub not_later : (candidates : List (List Prop)) (step : List Prop) (first next : ℕ) → ((number : ℕ) → first ≤ number → number < next → IsAt candidates step number → ⊥) → (IsAt candidates step next → ⊥) → (number : ℕ) → first ≤ number → number < next + 1 → IsAt candidates step number → ⊥
not_later candidates step first next before here number from to at = here_or_before candidates step next number (λ lt. before number from lt at) here to at (cases_lt number next)

pub not_past : (candidates : List (List Prop)) (step : List Prop) (first next : ℕ) → ((number : ℕ) → first ≤ number → number < next → IsAt candidates step number → ⊥) → length candidates ≤ next → (number : ℕ) → first ≤ number → IsAt candidates step number → ⊥
not_past candidates step first next before past number from at = before number from (omega (arith, at.within)) at
