-- The up states that an exact run keeps.
use Rattle.std.specs.Prelude.{ℕ, ◌+◌, List, [], ◌∷◌}
use Rattle.hk_kinds.specs.declared.properties.Prop.{Prop}
use Rattle.hk_spec.specs.Runs.{exact_up}
use Rattle.hk_spec.specs.Specifications.{BoundSpecification}

-- the up states after each of the values from a position on
abbrev pub exact_ups : BoundSpecification → ℕ → List ℕ → List (List Prop)
exact_ups b position [] = []
exact_ups b position (value ∷ values) = exact_up b (position + 1) values ∷ exact_ups b (position + 1) values
