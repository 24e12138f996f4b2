use Rattle.std.proofs.Common.{◌≡◌, ℕ, ◌<◌, List, [], ◌∷◌, ◌++◌, length, slice_index, All, arith, refl, sym, subst, inl, inr}
use Rattle.std.proofs.lemmas.Nat.Bits.{bit_at_above}
use Rattle.std.proofs.lemmas.List.{get_or_append_left, get_or_at, get_or_default, length_push, get_or_push}
use Rattle.std.proofs.lemmas.Bool.{cases_lt}
use Rattle.hk_base.specs.Sets.{Has}
use Rattle.hk_group.specs.Problems.{PlainProblem, IsValid}
use Rattle.hk_group.specs.Solutions.{IsSolution}
use Rattle.hk_search.specs.inside.Walks.{IsBegun}

-- a valid problem's sets have values below 128 alone
pub below_from_Has : (p : PlainProblem) (variable value : ℕ) → IsValid p → variable < length p.domains → Has (slice_index p.domains variable) value → value < 128
below_from_Has p variable value valid within has =
    let domain = valid.domains variable 0 within in
    elim (cases_lt value 128) [
      | inl less ↦ less
      | inr above ↦ absurd (let none = bit_at_above (slice_index p.domains variable) 128 value domain.small above in cc)
    ]

-- values of their sets are below 128
pub small_from_IsBegun : (p : PlainProblem) (front : List ℕ) → IsValid p → IsBegun p front → All (λ value. value < 128) front
small_from_IsBegun p front valid begun k d within =
    subst (λ value. value < 128) (get_or_default front k 0 d within)
    (below_from_Has p k (slice_index front k) valid (let short = begun.short in omega arith) (begun.inside k within))

-- one more variable gets a value of its set
pub IsBegun-push : (p : PlainProblem) (front : List ℕ) (value : ℕ) → IsBegun p front → length front < length p.domains → Has (slice_index p.domains (length front)) value → IsBegun p (front ++ value ∷ [])
IsBegun-push p front value begun more has = record {
  short = let size = length_push front value in omega arith;
  inside = λ variable within.
      elim (cases_lt variable (length front)) [
        | inl less ↦ subst (Has (slice_index p.domains variable)) (sym (get_or_append_left front (value ∷ []) 0 variable less)) (begun.inside variable less)
        | inr rest ↦
            let same : length front ≡ variable = (let size = length_push front value in omega arith) in
            subst (λ last. Has (slice_index p.domains last) (slice_index (front ++ value ∷ []) last)) same
            (subst (Has (slice_index p.domains (length front))) (sym (get_or_push front value 0 (length front) refl)) has)
      ];
}

-- what a solution gives the next variable is in its set
pub next_in_set : (p : PlainProblem) (front rest : List ℕ) (value : ℕ) → length front < length p.domains → IsSolution p (front ++ value ∷ rest) → Has (slice_index p.domains (length front)) value
next_in_set p front rest value more solution = subst (Has (slice_index p.domains (length front))) (get_or_at front value rest 0 (length front) refl) (solution.inside (length front) more)
