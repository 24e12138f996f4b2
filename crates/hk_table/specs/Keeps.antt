-- Which assignments a table keeps, and which values it supports.
use Rattle.std.specs.Prelude.{◌≡◌, ℕ, suc, ◌<◌, List, [], ◌∷◌, length, slice_get, Some}
use Rattle.hk_base.specs.Sets.{Has}
use Rattle.hk_table.specs.Tables.{PlainRow, PlainShape, entry_for, layer_values}
use Rattle.hk_table.specs.declared.entries.Entry.TheVariants.{Live}

-- from a row of the first of these layers on, the path of these values stands on rows that are there, up to the last
-- layer, and meets Live entries alone
pub data KeepsFrom : List (List ℕ) → List (List PlainRow) → ℕ → List ℕ → Type 0 where
  keeps_last : {last : List PlainRow} {c : ℕ} → c < length last → KeepsFrom [] (last ∷ []) c []
  keeps_layer : {values : List ℕ} {more : List (List ℕ)} {layer : List PlainRow} {layers : List (List PlainRow)} {c next value : ℕ} {rest : List ℕ} {row : PlainRow}
      → slice_get layer c ≡ Some row → entry_for values row.entries value ≡ Live next → KeepsFrom more layers next rest
      → KeepsFrom (values ∷ more) (layer ∷ layers) c (value ∷ rest)

-- a table keeps an assignment, which has one value a layer: from row 0 of the first layer on
abbrev pub Keeps : PlainShape → List (List PlainRow) → List ℕ → Type 0
Keeps shape table assignment = KeepsFrom (layer_values shape) table 0 assignment

-- a row that Live entries reach from this row of the first of these layers, so many layers on, has a Live entry at the value
pub data SupportsFrom : List (List ℕ) → List (List PlainRow) → ℕ → ℕ → ℕ → Type 0 where
  supports_here : {values : List ℕ} {more : List (List ℕ)} {layer : List PlainRow} {layers : List (List PlainRow)} {c next value : ℕ} {row : PlainRow}
      → slice_get layer c ≡ Some row → entry_for values row.entries value ≡ Live next
      → SupportsFrom (values ∷ more) (layer ∷ layers) c 0 value
  supports_later : {values : List ℕ} {more : List (List ℕ)} {layer : List PlainRow} {layers : List (List PlainRow)} {c next level value : ℕ} {row : PlainRow} (step : ℕ)
      → slice_get layer c ≡ Some row → entry_for values row.entries step ≡ Live next → SupportsFrom more layers next level value
      → SupportsFrom (values ∷ more) (layer ∷ layers) c (suc level) value

-- a table supports a value at a layer
abbrev pub Supports : PlainShape → List (List PlainRow) → ℕ → ℕ → Type 0
Supports shape table level value = SupportsFrom (layer_values shape) table 0 level value

-- an assignment has one value for each of these sets, which lies in it
pub data LieIn : List ℕ → List ℕ → Type 0 where
  lie_none : LieIn [] []
  lie_more : {set value : ℕ} {sets values : List ℕ} → Has set value → value < 128 → LieIn sets values → LieIn (set ∷ sets) (value ∷ values)
