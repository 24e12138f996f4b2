-- A layer whose rows are written.
use Rattle.std.specs.Prelude.{◌≡◌, ◌≢◌, ℕ, List, [], ◌∷◌, Option, None, length, take, drop, slice_index_or}
use Rattle.hk_arena.specs.Diagrams.{rows_of}
use Rattle.hk_kinds.specs.declared.properties.Prop.{Prop}
use Rattle.hk_layers.specs.Flat.{half_at}
use Rattle.hk_layers.specs.Layers.{Half}
use Rattle.hk_table.specs.Tables.{PlainRow}
use Rattle.hk_table.specs.declared.entries.Entry.{Entry}

-- the row that is made of that of the way down at a place, of its up state, and of these entries
abbrev pub made_row : List Half → List (Option (List Prop)) → ℕ → List Entry → PlainRow
made_row halves ups at entries = record { down = (half_at halves at).down; up = slice_index_or ups at None; from = (half_at halves at).from; entries = entries }

-- the rows that are made of those of the way down, of their up states, and of entries, so many a row
abbrev pub rows_made : ℕ → List Half → List (Option (List Prop)) → List Entry → List PlainRow
rows_made count [] ups entries = []
rows_made count (half ∷ halves) [] entries = []
rows_made count (half ∷ halves) (up ∷ ups) entries = record { down = half.down; up = up; from = half.from; entries = take count entries } ∷ rows_made count halves ups (drop count entries)

-- a table is another one but for one layer, which has these rows
pub record IsLayerWritten (layer : ℕ) (rows : List PlainRow) (old new : List (List PlainRow)) : Type 0 where
  pub here : rows_of new layer ≡ rows
  pub others : (other : ℕ) → other ≢ layer → rows_of new other ≡ rows_of old other
  pub layers : length new ≡ length old
