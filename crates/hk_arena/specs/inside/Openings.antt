-- A diagram while it gets the rows of the opening table.
use Rattle.std.specs.Prelude.{◌≡◌, ℕ, suc, ◌<◌, ◌≤◌, List, [], ◌∷◌, Some, length, replicate}
use Rattle.hk_kinds.specs.declared.properties.Prop.{Prop}
use Rattle.hk_table.specs.Opening.{opening_row}
use Rattle.hk_table.specs.Tables.{PlainRow}
use Rattle.hk_table.specs.declared.entries.Entry.TheVariants.{Live}
use Rattle.hk_arena.specs.Diagrams.{DiagramLevels, rows_of, values_of}

-- no push is open, a layer can have a row, the layers before this one are those of the opening table, and the others
-- have no rows
pub record IsOpening (layer : ℕ) (diagram : DiagramLevels) : Type 0 where
  pub some_width : 0 < diagram.width
  pub closed : diagram.numbers ≡ []
  pub layers : length diagram.table ≡ suc (length diagram.shape.domains)
  pub opened : (l : ℕ) → l < layer → rows_of diagram.table l ≡ opening_row diagram.shape.down diagram.shape.up (values_of diagram.shape l) ∷ []
  pub empty : (l : ℕ) → layer ≤ l → rows_of diagram.table l ≡ []

-- a row with these states that comes from row 0
abbrev pub opened_row : List Prop → List Prop → PlainRow → PlainRow
opened_row down up row = record row { down = down; up = Some up; from = 0 ∷ [] }

-- a row with so many Live entries, which name row 0
abbrev pub live_row : ℕ → PlainRow → PlainRow
live_row count row = record row { entries = replicate count (Live 0) }
