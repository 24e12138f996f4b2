-- What contracts see of a diagram.
use Rattle.std.specs.Prelude.{ℕ, ◌<◌, List, [], None, length, slice_index_or}
use Rattle.hk_table.specs.Tables.{PlainRow, PlainShape, layer_values}
use Rattle.hk_arena.specs.declared.ids.RowId.{RowId}
use Rattle.hk_arena.specs.declared.ids.EntryId.{EntryId}

-- a diagram: its table, and the tables at the open pushes, the latest first; what it was made for, and how many rows a
-- layer has at most; and for each open push how many distinct cells were written while it was the highest
pub record DiagramLevels : Type 0 where
  pub table : List (List PlainRow)
  pub stack : List (List (List PlainRow))
  pub shape : PlainShape
  pub width : ℕ
  pub numbers : List ℕ

-- the rows of a layer; none where the table has no such layer
abbrev pub rows_of : List (List PlainRow) → ℕ → List PlainRow
rows_of table layer = slice_index_or table layer []

-- the values of a layer; none in the last one
abbrev pub values_of : PlainShape → ℕ → List ℕ
values_of shape layer = slice_index_or (layer_values shape) layer []

-- the row is there
abbrev pub IsRow : List (List PlainRow) → RowId → Type 0
IsRow table row = row.at < length (rows_of table row.layer)

-- the row; one without anything where it isn't there
abbrev pub row_in : List (List PlainRow) → RowId → PlainRow
row_in table row = slice_index_or (rows_of table row.layer) row.at (record { down = []; up = None; from = []; entries = [] })

-- the row is there, and has an entry at this place among those of its layer
pub record IsEntry (shape : PlainShape) (table : List (List PlainRow)) (id : EntryId) : Type 0 where
  pub row : IsRow table id.row
  pub layer : id.row.layer < length shape.domains
  pub place : id.at < length (values_of shape id.row.layer)
