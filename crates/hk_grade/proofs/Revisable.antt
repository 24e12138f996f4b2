-- A graded specification has what revisions ask.
use Rattle.std.proofs.Common.{ℕ, ◌<◌, List}
use Rattle.hk_kinds.specs.Covers.{StateCovers}
use Rattle.hk_kinds.specs.Tops.{top_state}
use Rattle.hk_kinds.specs.declared.properties.Prop.{Prop}
use Rattle.hk_kinds.proofs.Covering.{state_along}
use Rattle.hk_kinds.proofs.StateLaws.{HasShape-top, top_covers}
use Rattle.hk_spec.specs.Grades.{IsGraded}
use Rattle.hk_spec.specs.Monotone.{IsRevisable}
use Rattle.hk_spec.specs.Specifications.{BoundSpecification, IsBound, down_shape, up_shape}
use Rattle.hk_spec.specs.Steps.{down_step, up_step}
use Rattle.hk_spec.proofs.StepLaws.{down_step_has_shape, up_step_has_shape}
use Rattle.hk_grade.proofs.GradedSteps.{down_step_covers, up_step_covers, graded_monotone}

module _ (b : BoundSpecification) (bound : IsBound b) (graded : IsGraded b.spec) (position value : ℕ) (state : List Prop) (within : position < b.len) (small : value < 128) where
  -- the top covers the step of the top, which covers the step of what the top covers
  down_top_covers : StateCovers (down_shape b.spec) (top_state (down_shape b.spec)) state → StateCovers (down_shape b.spec) (top_state (down_shape b.spec)) (down_step b position value state)
  down_top_covers covers = state_along (top_covers _ _ (down_step_has_shape b position value _ bound within small (HasShape-top (down_shape b.spec)))) (down_step_covers b bound graded position value _ state covers)

  up_top_covers : StateCovers (up_shape b.spec) (top_state (up_shape b.spec)) state → StateCovers (up_shape b.spec) (top_state (up_shape b.spec)) (up_step b position value state)
  up_top_covers covers = state_along (top_covers _ _ (up_step_has_shape b position value _ bound within small (HasShape-top (up_shape b.spec)))) (up_step_covers b bound graded position value _ state covers)

-- a graded specification is revisable
pub graded_revisable : (b : BoundSpecification) → IsBound b → IsGraded b.spec → IsRevisable b
graded_revisable b bound graded = record {
  monotone = graded_monotone b bound graded;
  down_shapes = λ position value state within small shape. down_step_has_shape b position value state bound within small shape;
  up_shapes = λ position value state within small shape. up_step_has_shape b position value state bound within small shape;
  down_top_begins = top_covers _ _ bound.rules.initial_down;
  up_top_begins = top_covers _ _ bound.rules.initial_up;
  down_top_steps = down_top_covers b bound graded;
  up_top_steps = up_top_covers b bound graded;
}
