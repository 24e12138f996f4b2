-- What a revision uses of a group: the shapes of its states, its initial states, its steps and its test.
use Rattle.std.specs.Prelude.{ℕ, ℤ, ◌+◌, Bool, List, [], ◌∷◌, map, slice_index}
use Rattle.hk_kinds.specs.declared.kinds.Kind.{Kind}
use Rattle.hk_kinds.specs.declared.properties.Prop.{Prop}
use Rattle.hk_group.specs.Groups.{PlainGroup, group_down_shape, group_up_shape, group_initial_down, group_initial_up, group_down, group_up, group_passes}

-- the shapes and the initial states; the down state after a value at a layer, of the one before it; the up state before
-- it, of the one after it; and whether the test of a layer holds of a value and a bound on the cost, between two states
pub record Transitions : Type 0 where
  pub down_shape : List Kind
  pub up_shape : List Kind
  pub initial_down : List Prop
  pub initial_up : List Prop
  pub down : ℕ → ℕ → List Prop → List Prop
  pub up : ℕ → ℕ → List Prop → List Prop
  pub passes : ℕ → ℕ → ℤ → List Prop → List Prop → Bool

-- those of a group
abbrev pub transitions_of : PlainGroup → Transitions
transitions_of g = record {
  down_shape = group_down_shape g;
  up_shape = group_up_shape g;
  initial_down = group_initial_down g;
  initial_up = group_initial_up g;
  down = λ layer value state. group_down g layer value state;
  up = λ layer value state. group_up g layer value state;
  passes = λ layer value best down up. group_passes g layer value best down up;
}

-- of sets for all variables, those of a group's layers
abbrev pub layer_sets : PlainGroup → List ℕ → List ℕ
layer_sets g sets = map (λ variable. slice_index sets variable) g.vars

-- the down state after some values from a layer on, of the one before them
abbrev pub down_along : Transitions → ℕ → List Prop → List ℕ → List Prop
down_along t layer state [] = state
down_along t layer state (value ∷ values) = down_along t (layer + 1) (t.down layer value state) values
