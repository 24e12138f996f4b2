-- Groups of specifications: their states side by side, and what a step and a test of a layer do.
use Rattle.std.specs.Prelude.{◌≡◌, ℕ, ◌<◌, ◌==◌, ◌&&◌, ◌↔◌, ℤ, Bool, true, List, [], ◌∷◌, ◌++◌, length, take, drop, slice_index, position, All, Any, Contains, Option, None, Some}
use Rattle.std.specs.List.Sorted.{IsStrictlyIncreasing}
use Rattle.hk_kinds.specs.declared.kinds.Kind.{Kind}
use Rattle.hk_kinds.specs.declared.properties.Prop.{Prop}
use Rattle.hk_spec.specs.Specifications.{BoundSpecification, IsBound, initial_values, down_shape, up_shape}
use Rattle.hk_spec.specs.Steps.{down_step, up_step, test_passes}

-- a part of a group: a specification with its arguments, and the variables that it is about, in order
pub record Part : Type 0 where
  pub bound : BoundSpecification
  pub scope : List ℕ

-- a group: its variables, of which each has a layer, and its parts
pub record PlainGroup : Type 0 where
  pub vars : List ℕ
  pub parts : List Part

-- the place of a variable in a scope, where it stands there
abbrev pub place_in : List ℕ → ℕ → Option ℕ
place_in scope variable = position (λ other. other == variable) scope

-- a part's own down state after a value at a place of its scope, or as it was where it has no place
abbrev pub down_at : Part → Option ℕ → ℕ → List Prop → List Prop
down_at part None value state = state
down_at part (Some place) value state = down_step part.bound place value state

-- a part's own up state before a value at a place of its scope
abbrev pub up_at : Part → Option ℕ → ℕ → List Prop → List Prop
up_at part None value state = state
up_at part (Some place) value state = up_step part.bound place value state

-- whether a part's test holds of its own states at a place of its scope: where it has no place it has no test
abbrev pub passes_at : Part → Option ℕ → ℕ → ℤ → List Prop → List Prop → Bool
passes_at part None value best down up = true
passes_at part (Some place) value best down up = test_passes part.bound place value down up best

-- a part's own down state after a value of a variable: the step of its specification, or as it was outside of its scope
abbrev pub part_down : Part → ℕ → ℕ → List Prop → List Prop
part_down part variable value state = down_at part (place_in part.scope variable) value state

-- a part's own up state before a value of a variable
abbrev pub part_up : Part → ℕ → ℕ → List Prop → List Prop
part_up part variable value state = up_at part (place_in part.scope variable) value state

-- whether a part's test holds of its own states: outside of its scope it has none
abbrev pub part_passes : Part → ℕ → ℕ → ℤ → List Prop → List Prop → Bool
part_passes part variable value best down up = passes_at part (place_in part.scope variable) value best down up

-- how many properties a part has on each side
abbrev pub down_width : Part → ℕ
down_width part = length part.bound.spec.down

abbrev pub up_width : Part → ℕ
up_width part = length part.bound.spec.up

-- the properties of parts side by side: their shapes and their initial values
abbrev pub down_shape_of : List Part → List Kind
down_shape_of [] = []
down_shape_of (part ∷ parts) = down_shape part.bound.spec ++ down_shape_of parts

abbrev pub up_shape_of : List Part → List Kind
up_shape_of [] = []
up_shape_of (part ∷ parts) = up_shape part.bound.spec ++ up_shape_of parts

abbrev pub initial_down_of : List Part → List Prop
initial_down_of [] = []
initial_down_of (part ∷ parts) = initial_values part.bound.spec.down ++ initial_down_of parts

abbrev pub initial_up_of : List Part → List Prop
initial_up_of [] = []
initial_up_of (part ∷ parts) = initial_values part.bound.spec.up ++ initial_up_of parts

-- the step of a state of parts by a value of a variable: each part's, of its own properties
abbrev pub down_of : List Part → ℕ → ℕ → List Prop → List Prop
down_of [] variable value state = []
down_of (part ∷ parts) variable value state = part_down part variable value (take (down_width part) state) ++ down_of parts variable value (drop (down_width part) state)

abbrev pub up_of : List Part → ℕ → ℕ → List Prop → List Prop
up_of [] variable value state = []
up_of (part ∷ parts) variable value state = part_up part variable value (take (up_width part) state) ++ up_of parts variable value (drop (up_width part) state)

-- whether all tests of parts hold, each of its own properties
abbrev pub passes_of : List Part → ℕ → ℕ → ℤ → List Prop → List Prop → Bool
passes_of [] variable value best down up = true
passes_of (part ∷ parts) variable value best down up = part_passes part variable value best (take (down_width part) down) (take (up_width part) up) && passes_of parts variable value best (drop (down_width part) down) (drop (up_width part) up)

-- the shapes and the initial states of a group
abbrev pub group_down_shape : PlainGroup → List Kind
group_down_shape g = down_shape_of g.parts

abbrev pub group_up_shape : PlainGroup → List Kind
group_up_shape g = up_shape_of g.parts

abbrev pub group_initial_down : PlainGroup → List Prop
group_initial_down g = initial_down_of g.parts

abbrev pub group_initial_up : PlainGroup → List Prop
group_initial_up g = initial_up_of g.parts

-- the down state after a value at a layer, of the one before it
abbrev pub group_down : PlainGroup → ℕ → ℕ → List Prop → List Prop
group_down g layer value state = down_of g.parts (slice_index g.vars layer) value state

-- the up state before a value at a layer, of the one after it
abbrev pub group_up : PlainGroup → ℕ → ℕ → List Prop → List Prop
group_up g layer value state = up_of g.parts (slice_index g.vars layer) value state

-- whether the test of a layer holds of a value, the down state before it and the up state after it
abbrev pub group_passes : PlainGroup → ℕ → ℕ → ℤ → List Prop → List Prop → Bool
group_passes g layer value best down up = passes_of g.parts (slice_index g.vars layer) value best down up

-- a part keeps the rules of its specification, and its scope names as many variables as it is for, in order
pub record IsPart (part : Part) : Type 0 where
  pub rules : IsBound part.bound
  pub len : part.bound.len ≡ length part.scope
  pub rising : IsStrictlyIncreasing part.scope

-- a group has parts, and its variables are those of their scopes, each once and in order
pub record IsGroup (g : PlainGroup) : Type 0 where
  pub some : 0 < length g.parts
  pub parts : All IsPart g.parts
  pub rising : IsStrictlyIncreasing g.vars
  pub union : (variable : ℕ) → Contains g.vars variable ↔ Any (λ part. Contains part.scope variable) g.parts
