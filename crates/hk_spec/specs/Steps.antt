-- The steps of states and the test of a position, also within longer states.
use Rattle.std.specs.Prelude.{ℕ, ℤ, pos, Bool, List, [], length, map}
use Rattle.hk_kinds.specs.Parts.{part_at}
use Rattle.hk_kinds.specs.declared.properties.Prop.{Prop}
use Rattle.hk_kinds.specs.declared.properties.Prop.TheVariants as property
use Rattle.hk_spec.specs.Settings.{Setting}
use Rattle.hk_spec.specs.Specifications.{BoundSpecification}
use Rattle.hk_spec.specs.Values.{num_value, set_value, cond_holds}
use Rattle.hk_spec.specs.declared.parts.StepExpr.{StepExpr}
use Rattle.hk_spec.specs.declared.parts.StepExpr.TheVariants as step

-- the value that a step gives its property
abbrev pub step_value : Setting → StepExpr → Prop
step_value at (step.Num e) = property.Num (num_value at e)
step_value at (step.Pair low high) = property.Pair (num_value at low) (num_value at high)
step_value at (step.Set e) = property.Bits (set_value at e)

-- where a down step is computed: of the old down state alone
abbrev pub down_setting : BoundSpecification → ℕ → ℕ → List Prop → Setting
down_setting b position value state = record { value = value; position = position; positions = b.len; best = pos 0; args = b.args; down = state; up = [] }

-- where an up step is computed: of the old up state alone
abbrev pub up_setting : BoundSpecification → ℕ → ℕ → List Prop → Setting
up_setting b position value state = record { value = value; position = position; positions = b.len; best = pos 0; args = b.args; down = []; up = state }

-- where a test is computed
abbrev pub test_setting : BoundSpecification → ℕ → ℕ → List Prop → List Prop → ℤ → Setting
test_setting b position value down up best = record { value = value; position = position; positions = b.len; best = best; args = b.args; down = down; up = up }

-- the down state after a value at a position, of the one before it
abbrev pub down_step : BoundSpecification → ℕ → ℕ → List Prop → List Prop
down_step b position value state = map (step_value (down_setting b position value state)) b.spec.down_step

-- the up state before a value at a position, of the one after it
abbrev pub up_step : BoundSpecification → ℕ → ℕ → List Prop → List Prop
up_step b position value state = map (step_value (up_setting b position value state)) b.spec.up_step

-- whether the test holds of a value at a position, the down state before it and the up state after it
abbrev pub test_passes : BoundSpecification → ℕ → ℕ → List Prop → List Prop → ℤ → Bool
test_passes b position value down up best = cond_holds (test_setting b position value down up best) b.spec.test

-- the down state within a longer state
abbrev pub down_part : BoundSpecification → ℕ → List Prop → List Prop
down_part b first state = part_at first (length b.spec.down) state

-- the up state within a longer state
abbrev pub up_part : BoundSpecification → ℕ → List Prop → List Prop
up_part b first state = part_at first (length b.spec.up) state
