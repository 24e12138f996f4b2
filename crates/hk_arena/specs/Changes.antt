-- What a change of a diagram makes of its table.
use Rattle.std.specs.Prelude.{◌≡◌, ◌≢◌, ℕ, zero, suc, ◌<◌, ◌≤◌, List, [], ◌∷◌, Option, length, slice_set, All}
use Rattle.hk_kinds.specs.declared.properties.Prop.{Prop}
use Rattle.hk_table.specs.Fits.{RowFits}
use Rattle.hk_table.specs.Tables.{PlainRow, PlainShape}
use Rattle.hk_table.specs.declared.entries.Entry.{Entry}
use Rattle.hk_table.specs.declared.entries.Entry.TheVariants.{Gone}
use Rattle.hk_arena.specs.declared.ids.RowId.{RowId}
use Rattle.hk_arena.specs.Diagrams.{rows_of, values_of, row_in}

-- a list with its item at this place changed, where there is one
abbrev pub changed : {X : Type 0} → ℕ → (X → X) → List X → List X
changed at change [] = []
changed zero change (x ∷ xs) = change x ∷ xs
changed (suc at) change (x ∷ xs) = x ∷ changed at change xs

-- a table with one row changed
abbrev pub with_row : RowId → (PlainRow → PlainRow) → List (List PlainRow) → List (List PlainRow)
with_row row change table = changed row.layer (changed row.at change) table

-- a row with another entry at this place
abbrev pub with_entry : ℕ → Entry → PlainRow → PlainRow
with_entry at entry row = record row { entries = slice_set row.entries at entry }

-- a row with another down state
abbrev pub with_down : List Prop → PlainRow → PlainRow
with_down state row = record row { down = state }

-- a row with another up state, or with none
abbrev pub with_up : Option (List Prop) → PlainRow → PlainRow
with_up state row = record row { up = state }

-- a row that comes from other rows
abbrev pub with_from : List ℕ → PlainRow → PlainRow
with_from rows row = record row { from = rows }

-- the row that has these parts
abbrev pub row_made : List Prop → Option (List Prop) → List ℕ → List Entry → PlainRow
row_made down up from entries = record { down = down; up = up; from = from; entries = entries }

-- a table is another one but for one row, which is any that fits
pub record IsRowChanged (shape : PlainShape) (row : RowId) (old new : List (List PlainRow)) : Type 0 where
  pub now : PlainRow
  pub fits : RowFits shape.down shape.up (values_of shape row.layer) now
  pub table : new ≡ with_row row (λ _. now) old

-- all entries of a row are Gone
abbrev pub IsEmptyRow : PlainRow → Type 0
IsEmptyRow row = All (λ entry. entry ≡ Gone) row.entries

-- the rows of a layer from this one on have Gone entries alone
abbrev pub AreEmptyFrom : List (List PlainRow) → ℕ → ℕ → Type 0
AreEmptyFrom table layer rows = (row : RowId) → row.layer ≡ layer → rows ≤ row.at → row.at < length (rows_of table layer) → IsEmptyRow (row_in table row)

-- a row of a layer fits, and has Gone entries alone
pub record IsAddedRow (shape : PlainShape) (layer : ℕ) (row : PlainRow) : Type 0 where
  pub fits : RowFits shape.down shape.up (values_of shape layer) row
  pub empty : IsEmptyRow row

-- a layer has so many rows: the first so many of those that were there are as they were, and those that were not there
-- fit and have Gone entries alone; other layers stay
pub record IsResized (shape : PlainShape) (layer rows : ℕ) (old new : List (List PlainRow)) : Type 0 where
  pub layers : length new ≡ length old
  pub others : (other : ℕ) → other ≢ layer → rows_of new other ≡ rows_of old other
  pub count : length (rows_of new layer) ≡ rows
  pub stay : (row : RowId) → row.layer ≡ layer → row.at < rows → row.at < length (rows_of old layer) → row_in new row ≡ row_in old row
  pub added : (row : RowId) → row.layer ≡ layer → row.at < rows → length (rows_of old layer) ≤ row.at → IsAddedRow shape layer (row_in new row)

-- a table is another one but for the rows of a layer from this one on, and this layer has as many rows as before
pub record IsChangedFrom (layer rows : ℕ) (old new : List (List PlainRow)) : Type 0 where
  pub layers : length new ≡ length old
  pub others : (other : ℕ) → other ≢ layer → rows_of new other ≡ rows_of old other
  pub count : length (rows_of new layer) ≡ length (rows_of old layer)
  pub stay : (row : RowId) → row.layer ≡ layer → row.at < rows → row_in new row ≡ row_in old row
