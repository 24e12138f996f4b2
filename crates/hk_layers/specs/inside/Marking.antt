-- What becomes of the values of a row, by the old rows that each leads to.
use Rattle.std.specs.Prelude.{ℕ, List, [], ◌∷◌}
use Rattle.hk_kinds.specs.declared.properties.Prop.{Prop}
use Rattle.hk_layers.specs.Layers.{Mark, mark_by}
use Rattle.hk_layers.specs.Spots.{PlainSpot}
use Rattle.hk_layers.specs.Transitions.{transitions_of}

-- what becomes of a value that leads to these old rows from a down state
abbrev pub mark_from : PlainSpot → List Prop → ℕ → List ℕ → Mark
mark_from spot down value targets = mark_by (transitions_of spot.group) spot.best spot.layer spot.domain (record { down = down; from = [] }) value targets

-- what becomes of the values of a row with this down state
abbrev pub row_marks : PlainSpot → List Prop → List ℕ → List (List ℕ) → List Mark
row_marks spot down [] lists = []
row_marks spot down (value ∷ values) [] = []
row_marks spot down (value ∷ values) (targets ∷ lists) = mark_from spot down value targets ∷ row_marks spot down values lists
