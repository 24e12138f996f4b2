-- The exact runs of transitions: the exact up states, and which values are accepted.
use Rattle.std.specs.Prelude.{ℕ, ℤ, ◌+◌, List, [], ◌∷◌, IsTrue}
use Rattle.hk_kinds.specs.declared.properties.Prop.{Prop}
use Rattle.hk_layers.specs.Transitions.{Transitions}

-- the up state before the values from a layer on: the initial one after the last, and a step back for each value
abbrev pub up_along : Transitions → ℕ → List ℕ → List Prop
up_along t layer [] = t.initial_up
up_along t layer (value ∷ values) = t.up layer value (up_along t (layer + 1) values)

-- from a layer and the exact down state before it on, the test holds at each layer between the exact states
pub data AcceptsFrom (t : Transitions) (best : ℤ) : ℕ → List Prop → List ℕ → Type 0 where
  accepts_last : {layer : ℕ} {down : List Prop} → AcceptsFrom t best layer down []
  accepts_layer : {layer value : ℕ} {down : List Prop} {values : List ℕ} → IsTrue (t.passes layer value best down (up_along t (layer + 1) values)) → AcceptsFrom t best (layer + 1) (t.down layer value down) values → AcceptsFrom t best layer down (value ∷ values)
