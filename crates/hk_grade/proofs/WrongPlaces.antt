-- The first wrong place of a specification, found by the order of its places.
use Rattle.std.proofs.Common.{◌≡◌, ℕ, ◌+◌, ◌<◌, ◌≤◌, arith, List, length, Option, None, Some, refl, subst, inl, inr}
use Rattle.std.proofs.lemmas.Bool.{cases_lt}
use Rattle.std.proofs.lemmas.Option.{slice_get_past}
use Rattle.hk_kinds.specs.declared.kinds.Kind.{Kind}
use Rattle.hk_spec.specs.Grades.{Kinds, IsFirstWrong, ComesBefore, kinds_in, wrong_test, wrong_step_at, wrong_sense}
use Rattle.hk_spec.specs.Specifications.{Specification}
use Rattle.hk_spec.specs.declared.parts.StepExpr.{StepExpr}
use Rattle.hk_spec.specs.declared.senses.Place.{Place}
use Rattle.hk_spec.specs.declared.senses.Place.TheVariants as place
use Rattle.hk_spec.specs.declared.senses.Sense.{Sense}

-- no step is wrong past the end of a shape
allowed_past : (of : Kinds) (kinds : List Kind) (steps : List StepExpr) (k : ℕ) → length kinds ≤ k → wrong_step_at of kinds steps k ≡ None
allowed_past of kinds steps k past = rw (slice_get_past kinds k past) refl

-- with one more allowed step, the steps below are allowed
pub allowed_below : {wrong : ℕ → Option Sense} {at : ℕ} → ((k : ℕ) → k < at → wrong k ≡ None) → wrong at ≡ None → (k : ℕ) → k < at + 1 → wrong k ≡ None
allowed_below {wrong = wrong} {at = at} before here k below = elim (cases_lt k at) [
  | inl less ↦ before k less
  | inr past ↦ (let same : at ≡ k = omega (arith, below, past) in subst (λ j. wrong j ≡ None) same here)
]

-- where the steps of a shape are allowed, all are
pub allowed_all : (of : Kinds) (kinds : List Kind) (steps : List StepExpr) → ((k : ℕ) → k < length kinds → wrong_step_at of kinds steps k ≡ None) → (k : ℕ) → wrong_step_at of kinds steps k ≡ None
allowed_all of kinds steps within k = elim (cases_lt k (length kinds)) [
  | inl less ↦ within k less
  | inr past ↦ allowed_past of kinds steps k past
]

-- the test is the first place
pub test_is_first : (s : Specification) {found : Sense} → wrong_test (kinds_in s) s.test ≡ Some found → IsFirstWrong s place.Test found
test_is_first s here = record { here = here; first = first }
  where
    first : (other : Place) → ComesBefore other place.Test → wrong_sense s other ≡ None
    first place.Test before = elim before [ ]
    first (place.Down k) before = elim before [ ]
    first (place.Up k) before = elim before [ ]
