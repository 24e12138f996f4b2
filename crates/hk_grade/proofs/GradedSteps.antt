-- The steps and the test of a graded specification move in the senses that are allowed there.
use Rattle.std.proofs.Common.{◌≡◌, ℕ, ℤ, true, Option, None, Some, List, [], ◌∷◌, map, zero, suc, refl, IsTrue}
use Rattle.hk_kinds.specs.Covers.{PropertyCovers, covers_min, covers_max, covers_interval, covers_some, covers_all, StateCovers, covers_none, covers_more}
use Rattle.hk_kinds.specs.NumberLattices.{first_true, second_true}
use Rattle.hk_kinds.specs.declared.kinds.Kind.{Kind}
use Rattle.hk_kinds.specs.declared.kinds.Kind.TheVariants.{Min, Max, Interval, SomeBits, AllBits}
use Rattle.hk_kinds.specs.declared.properties.Prop.{Prop}
use Rattle.hk_spec.specs.Grades.{Kinds, IsGraded, first_wrong, wrong_step, wrong_step_at, kinds_in}
use Rattle.hk_spec.specs.Monotone.{IsMonotone}
use Rattle.hk_spec.specs.Scopes.{Scope}
use Rattle.hk_spec.specs.Settings.{Setting}
use Rattle.hk_spec.specs.Specifications.{BoundSpecification, IsBound, down_shape, up_shape, down_scope, up_scope, is_step, are_steps}
use Rattle.hk_spec.specs.Steps.{step_value, down_setting, up_setting, test_setting, down_step, up_step, test_passes}
use Rattle.hk_spec.specs.declared.parts.StepExpr.{StepExpr}
use Rattle.hk_spec.specs.declared.parts.StepExpr.TheVariants as step
use Rattle.hk_spec.specs.declared.senses.Place.TheVariants as place
use Rattle.hk_spec.specs.declared.senses.Sense.{Sense}
use Rattle.hk_grade.proofs.Moves.{may_rise, may_fall}
use Rattle.hk_grade.proofs.MovedExpressions.{widened, num_moves, set_moves, cond_moves}
use Rattle.hk_grade.proofs.MovedProperties.{StateMoves, same_moves, state_moves}
use Rattle.hk_grade.proofs.Movements.{same_number, same_set, same_truth}

-- where no wrong sense is found in two, none is in the first, nor in the second
first_allowed : (first second : Option Sense) → first_wrong first second ≡ None → first ≡ None
first_allowed None second h = refl
first_allowed (Some sense) second h = cc

second_allowed : (first second : Option Sense) → first_wrong first second ≡ None → second ≡ None
second_allowed None second h = h
second_allowed (Some sense) second h = cc

module _ (of : Kinds) (at : Setting) (down up : List Prop) (down_moves : StateMoves of.down at.down down) (up_moves : StateMoves of.up at.up up) (scope : Scope) where
  -- an allowed step of the wider states covers the step
  step_covers : (kind : Kind) (e : StepExpr) → is_step scope kind e ≡ true → wrong_step of kind e ≡ None → PropertyCovers kind (step_value (widened at down up) e) (step_value at e)
  step_covers Min (step.Num e) good allowed = covers_min (may_fall same_number allowed (num_moves of at down up down_moves up_moves e))
  step_covers Max (step.Num e) good allowed = covers_max (may_rise same_number allowed (num_moves of at down up down_moves up_moves e))
  step_covers Interval (step.Pair low high) good allowed = covers_interval (may_fall same_number (first_allowed _ _ allowed) (num_moves of at down up down_moves up_moves low)) (may_rise same_number (second_allowed _ _ allowed) (num_moves of at down up down_moves up_moves high))
  step_covers SomeBits (step.Set e) good allowed = covers_some (may_rise same_set allowed (set_moves of at down up down_moves up_moves e))
  step_covers AllBits (step.Set e) good allowed = covers_all (may_fall same_set allowed (set_moves of at down up down_moves up_moves e))
  step_covers _ _ good allowed = cc

  -- the state of allowed steps of the wider states covers the state of the steps
  pub steps_cover : (kinds : List Kind) (steps : List StepExpr) → are_steps scope kinds steps ≡ true → ((k : ℕ) → wrong_step_at of kinds steps k ≡ None) → StateCovers kinds (map (step_value (widened at down up)) steps) (map (step_value at) steps)
  steps_cover [] [] good allowed = covers_none
  steps_cover (kind ∷ kinds) (e ∷ steps) good allowed = covers_more (step_covers kind e (first_true _ _ good) (allowed zero)) (steps_cover kinds steps (second_true _ _ good) (λ k. allowed (suc k)))
  steps_cover _ _ good allowed = cc

module _ (b : BoundSpecification) (bound : IsBound b) (graded : IsGraded b.spec) (position value : ℕ) where
  -- the step of a state that covers another covers the other's step
  pub down_step_covers : (wider state : List Prop) → StateCovers (down_shape b.spec) wider state → StateCovers (down_shape b.spec) (down_step b position value wider) (down_step b position value state)
  down_step_covers wider state covers = steps_cover (kinds_in b.spec) (down_setting b position value state) wider [] (state_moves covers) (λ k. same_moves _ _) (down_scope b.spec) (down_shape b.spec) b.spec.down_step bound.rules.good_down_steps (λ k. graded.allowed (place.Down k))

  pub up_step_covers : (wider state : List Prop) → StateCovers (up_shape b.spec) wider state → StateCovers (up_shape b.spec) (up_step b position value wider) (up_step b position value state)
  up_step_covers wider state covers = steps_cover (kinds_in b.spec) (up_setting b position value state) [] wider (λ k. same_moves _ _) (state_moves covers) (up_scope b.spec) (up_shape b.spec) b.spec.up_step bound.rules.good_up_steps (λ k. graded.allowed (place.Up k))

  -- a test that holds goes on holding where both states give way to wider ones
  test_goes_on : (best : ℤ) (wider_down down wider_up up : List Prop) → StateCovers (down_shape b.spec) wider_down down → StateCovers (up_shape b.spec) wider_up up → IsTrue (test_passes b position value down up best) → IsTrue (test_passes b position value wider_down wider_up best)
  test_goes_on best wider_down down wider_up up h k holds = may_rise same_truth (graded.allowed place.Test) (cond_moves (kinds_in b.spec) (test_setting b position value down up best) wider_down wider_up (state_moves h) (state_moves k) b.spec.test) holds

-- a graded specification is monotone
pub graded_monotone : (b : BoundSpecification) → IsBound b → IsGraded b.spec → IsMonotone b
graded_monotone b bound graded = record {
  down_steps = down_step_covers b bound graded;
  up_steps = up_step_covers b bound graded;
  test = test_goes_on b bound graded;
}
