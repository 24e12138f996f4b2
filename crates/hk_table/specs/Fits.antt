-- When a table fits what it is made for.
use Rattle.std.specs.Prelude.{◌≡◌, ℕ, List, [], ◌∷◌, length, All, Some}
use Rattle.hk_kinds.specs.Shapes.{HasShape}
use Rattle.hk_kinds.specs.declared.kinds.Kind.{Kind}
use Rattle.hk_kinds.specs.declared.properties.Prop.{Prop}
use Rattle.hk_table.specs.Tables.{PlainRow, PlainShape, layer_values}

-- a row has states of the two shapes, and one entry for each value of its layer
pub record RowFits (down up : List Kind) (values : List ℕ) (row : PlainRow) : Type 0 where
  pub down_shape : HasShape down row.down
  pub up_shape : (state : List Prop) → row.up ≡ Some state → HasShape up state
  pub long : length row.entries ≡ length values

-- there is one layer for each list of values, and a last one, whose rows have no entries; all rows fit
pub data LayersFit (down up : List Kind) : List (List ℕ) → List (List PlainRow) → Type 0 where
  last_fits : {last : List PlainRow} → All (RowFits down up []) last → LayersFit down up [] (last ∷ [])
  layer_fits : {values : List ℕ} {more : List (List ℕ)} {layer : List PlainRow} {layers : List (List PlainRow)}
      → All (RowFits down up values) layer → LayersFit down up more layers → LayersFit down up (values ∷ more) (layer ∷ layers)

-- the table fits the shape
abbrev pub Fits : PlainShape → List (List PlainRow) → Type 0
Fits shape table = LayersFit shape.down shape.up (layer_values shape) table
