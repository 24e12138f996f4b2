-- Numbers in order, each once: any numbers are such ones.
use Rattle.std.proofs.Common.{◌≡◌, ◌↔◌, ℕ, zero, suc, ◌+◌, ◌<◌, ◌⊎◌, inl, inr, ⊎_elim, List, [], ◌∷◌, Contains, get_or, refl, subst, ◌∙◌, arith}
use Rattle.std.specs.Prelude.{All, AllPairs}
use Rattle.std.specs.List.Sorted.{IsStrictlyIncreasing}
use Rattle.std.proofs.Math.Decide.{dec_lt}
use Rattle.std.proofs.lemmas.List.Elements.{All-nil, All-cons, All-contains, All-weaker, Contains-append_cases, Contains-append_right, Contains-get_or}
use Rattle.std.proofs.lemmas.List.Kept.{AllPairs-cons}
use Rattle.hk_draft.proofs.CountDecisions.{pairs_head, pairs_tail}

-- each number is below all later ones
abbrev pub Rise : List ℕ → Type 0
Rise = AllPairs (λ x y. x < y)

-- the first of a list is in it, and what is in it is the first or is in the rest
pub first_in : (x : ℕ) (xs : List ℕ) → Contains (x ∷ xs) x
first_in x xs = (0, omega arith, refl)

pub later_is_in : (x : ℕ) (xs : List ℕ) (v : ℕ) → Contains xs v → Contains (x ∷ xs) v
later_is_in x xs v is = Contains-append_right (x ∷ []) xs v is

pub first_or_later : (x : ℕ) (xs : List ℕ) (v : ℕ) → Contains (x ∷ xs) v → (x ≡ v) ⊎ Contains xs v
first_or_later x xs v is = ⊎_elim (λ first. inl (only first)) (λ later. inr later) (Contains-append_cases (x ∷ []) xs v is)
  where
    only : Contains (x ∷ []) v → x ≡ v
    only (zero, within, at) = at
    only (suc k, within, at) = absurd (omega (arith, within))

-- one number more
one_more : (v : ℕ) (xs : List ℕ) → Rise xs → (ys : List ℕ) × Rise ys × ((u : ℕ) → Contains ys u ↔ ((v ≡ u) ⊎ Contains xs u))
one_more v [] up = (
  v ∷ [],
  AllPairs-cons (λ x y. x < y) v [] (All-nil (λ y. v < y)) up,
  λ u. (first_or_later v [] u, ⊎_elim (λ same. subst (Contains (v ∷ [])) same (first_in v [])) (later_is_in v [] u)),
)
one_more v (x ∷ xs) up = by (one_more v xs (pairs_tail (λ a b. a < b) x xs up)) (dec_lt v x) (dec_lt x v)
  where
    above : All (λ y. x < y) xs
    above = pairs_head (λ a b. a < b) x xs up

    by : ((ys : List ℕ) × Rise ys × ((u : ℕ) → Contains ys u ↔ ((v ≡ u) ⊎ Contains xs u))) → Dec (v < x) → Dec (x < v) → (ys : List ℕ) × Rise ys × ((u : ℕ) → Contains ys u ↔ ((v ≡ u) ⊎ Contains (x ∷ xs) u))
    by rest (yes less) greater = (
      v ∷ x ∷ xs,
      AllPairs-cons (λ a b. a < b) v (x ∷ xs) (All-cons (λ y. v < y) x xs less (All-weaker (λ y. x < y) (λ y. v < y) (λ y more. omega (arith, less, more)) xs above)) up,
      λ u. (first_or_later v (x ∷ xs) u, ⊎_elim (λ same. subst (Contains (v ∷ x ∷ xs)) same (first_in v (x ∷ xs))) (later_is_in v (x ∷ xs) u)),
    )
    by rest (no none) (yes less) =
        let each : (u : ℕ) → Contains rest.0 u → x < u = λ u is. ⊎_elim (λ same. subst (λ n. x < n) same less) (λ later. All-contains (λ y. x < y) xs u above later) ((rest.2 u).0 is) in (
          x ∷ rest.0,
          AllPairs-cons (λ a b. a < b) x rest.0 (λ k d within. each (get_or rest.0 k d) (Contains-get_or rest.0 k d within)) rest.1,
          λ u. (
            λ is. ⊎_elim (λ first. inr (subst (Contains (x ∷ xs)) first (first_in x xs))) (λ later. ⊎_elim inl (λ mine. inr (later_is_in x xs u mine)) ((rest.2 u).0 later)) (first_or_later x rest.0 u is),
            ⊎_elim (λ same. later_is_in x rest.0 u ((rest.2 u).1 (inl same)))
                (λ is. ⊎_elim (λ first. subst (Contains (x ∷ rest.0)) first (first_in x rest.0)) (λ later. later_is_in x rest.0 u ((rest.2 u).1 (inr later))) (first_or_later x xs u is)),
          ),
        )
    by rest (no none) (no other) =
        let same : x ≡ v = omega (arith, none, other) in
        (x ∷ xs, up, λ u. (inr, ⊎_elim (λ is. subst (Contains (x ∷ xs)) (same ∙ is) (first_in x xs)) (λ is. is)))

-- so any numbers are those of a list in which they rise
pub in_order : (xs : List ℕ) → (ys : List ℕ) × Rise ys × ((u : ℕ) → Contains ys u ↔ Contains xs u)
in_order [] = ([], (λ i j d less within. absurd (omega (arith, within))), λ u. (λ is. is, λ is. is))
in_order (x ∷ xs) =
    let rest = in_order xs in
    let all = one_more x rest.0 rest.1 in (
      all.0,
      all.1,
      λ u. (
        λ is. ⊎_elim (λ same. subst (Contains (x ∷ xs)) same (first_in x xs)) (λ later. later_is_in x xs u ((rest.2 u).0 later)) ((all.2 u).0 is),
        λ is. (all.2 u).1 (⊎_elim inl (λ later. inr ((rest.2 u).1 later)) (first_or_later x xs u is)),
      ),
    )

pub increasing : (xs : List ℕ) → Rise xs → IsStrictlyIncreasing xs
increasing xs up = λ k within. up k (k + 1) 0 (omega arith) within
