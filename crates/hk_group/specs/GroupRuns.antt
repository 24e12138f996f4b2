-- The exact run of a group over its layers, and which values it accepts.
use Rattle.std.specs.Prelude.{ℕ, ℤ, ◌+◌, List, [], ◌∷◌, IsTrue}
use Rattle.hk_kinds.specs.declared.properties.Prop.{Prop}
use Rattle.hk_group.specs.Groups.{PlainGroup, group_initial_down, group_initial_up, group_down, group_up, group_passes}

-- the up state before the values from a layer on: the initial one after the last, and a step back for each value
abbrev pub exact_group_up : PlainGroup → ℕ → List ℕ → List Prop
exact_group_up g layer [] = group_initial_up g
exact_group_up g layer (value ∷ values) = group_up g layer value (exact_group_up g (layer + 1) values)

-- from a layer and the exact down state before it on, the test holds at each layer of the down state before it, the
-- value, and the up state after it
pub data GroupAcceptsFrom (g : PlainGroup) (best : ℤ) : ℕ → List Prop → List ℕ → Type 0 where
  at_last : {layer : ℕ} {down : List Prop} → GroupAcceptsFrom g best layer down []
  one_layer : {layer : ℕ} {down : List Prop} {value : ℕ} {values : List ℕ} → IsTrue (group_passes g layer value best down (exact_group_up g (layer + 1) values)) → GroupAcceptsFrom g best (layer + 1) (group_down g layer value down) values → GroupAcceptsFrom g best layer down (value ∷ values)

-- the exact run accepts the values, one a layer: it begins at the initial down state
abbrev pub GroupAccepts : PlainGroup → ℤ → List ℕ → Type 0
GroupAccepts g best values = GroupAcceptsFrom g best 0 (group_initial_down g) values
