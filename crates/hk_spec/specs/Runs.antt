-- The exact run over a list of values, and which lists it accepts.
use Rattle.std.specs.Prelude.{ℕ, ℤ, ◌+◌, List, [], ◌∷◌, IsTrue}
use Rattle.hk_kinds.specs.declared.properties.Prop.{Prop}
use Rattle.hk_spec.specs.Specifications.{BoundSpecification, initial_values}
use Rattle.hk_spec.specs.Steps.{down_step, up_step, test_passes}

-- the up state before the values from a position on: the initial one after the last, and a step back for each value
abbrev pub exact_up : BoundSpecification → ℕ → List ℕ → List Prop
exact_up b position [] = initial_values b.spec.up
exact_up b position (value ∷ values) = up_step b position value (exact_up b (position + 1) values)

-- the down state after values that begin at a position, of the one before them: a step for each value
abbrev pub exact_down_from : BoundSpecification → ℕ → List Prop → List ℕ → List Prop
exact_down_from b position down [] = down
exact_down_from b position down (value ∷ values) = exact_down_from b (position + 1) (down_step b position value down) values

-- the down state after all of these values, from the initial one on
abbrev pub exact_down : BoundSpecification → List ℕ → List Prop
exact_down b values = exact_down_from b 0 (initial_values b.spec.down) values

-- from a position and the exact down state before it on, the test holds at each position of the down state before
-- it, the value, and the up state after it
pub data AcceptsFrom (b : BoundSpecification) (best : ℤ) : ℕ → List Prop → List ℕ → Type 0 where
  at_end : {position : ℕ} {down : List Prop} → AcceptsFrom b best position down []
  one_more : {position : ℕ} {down : List Prop} {value : ℕ} {values : List ℕ} → IsTrue (test_passes b position value down (exact_up b (position + 1) values) best) → AcceptsFrom b best (position + 1) (down_step b position value down) values → AcceptsFrom b best position down (value ∷ values)

-- the exact run accepts the values: it begins at the initial down state
abbrev pub Accepts : BoundSpecification → ℤ → List ℕ → Type 0
Accepts b best values = AcceptsFrom b best 0 (initial_values b.spec.down) values
