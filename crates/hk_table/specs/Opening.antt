-- The opening table, from which a search begins: it rules nothing out.
use Rattle.std.specs.Prelude.{ℕ, List, [], ◌∷◌, length, replicate, Some}
use Rattle.hk_kinds.specs.Tops.{top_state}
use Rattle.hk_kinds.specs.declared.kinds.Kind.{Kind}
use Rattle.hk_table.specs.Tables.{PlainRow, PlainShape, layer_values}
use Rattle.hk_table.specs.declared.entries.Entry.TheVariants.{Live}

-- its one row of a layer with these values: the top states, which cover all, and Live entries alone
abbrev pub opening_row : List Kind → List Kind → List ℕ → PlainRow
opening_row down up values = record { down = top_state down; up = Some (top_state up); from = 0 ∷ []; entries = replicate (length values) (Live 0) }

-- one such row a layer, and one without entries in the last
abbrev pub opening_layers : List Kind → List Kind → List (List ℕ) → List (List PlainRow)
opening_layers down up [] = (opening_row down up [] ∷ []) ∷ []
opening_layers down up (values ∷ more) = (opening_row down up values ∷ []) ∷ opening_layers down up more

-- the opening table of a shape
abbrev pub opening_table : PlainShape → List (List PlainRow)
opening_table shape = opening_layers shape.down shape.up (layer_values shape)
