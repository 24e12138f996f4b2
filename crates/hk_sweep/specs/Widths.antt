-- What the tight revision promises of its rows beside the rules of a loose one: how many there are, and that all rows
-- which they name are there.
use Rattle.std.specs.Prelude.{ℕ, ◌<◌, ◌≤◌, List, [], ◌∷◌, length, All}
use Rattle.hk_table.specs.Tables.{PlainRow, NamesRow}

-- the first layer has a row
pub data HasFirstRow : List (List PlainRow) → Type 0 where
  has_first_row : {row : PlainRow} {rows : List PlainRow} {layers : List (List PlainRow)} → HasFirstRow ((row ∷ rows) ∷ layers)

-- each layer has at most so many rows
abbrev pub IsWithinWidth : ℕ → List (List PlainRow) → Type 0
IsWithinWidth width table = All (λ rows. length rows ≤ width) table

-- each Live or Dead entry names a row of the next layer
pub data NamesRows : List (List PlainRow) → Type 0 where
  names_last : {last : List PlainRow} → NamesRows (last ∷ [])
  names_layer : {layer next : List PlainRow} {layers : List (List PlainRow)}
      → All (λ row. All (λ entry. (c : ℕ) → NamesRow entry c → c < length next) row.entries) layer
      → NamesRows (next ∷ layers) → NamesRows (layer ∷ (next ∷ layers))

-- a row comes from some rows of a layer of the older table, and all that it comes from are there
pub record ComesFromRows (old : List PlainRow) (row : PlainRow) : Type 0 where
  pub some : 0 < length row.from
  pub there : All (λ origin. origin < length old) row.from

-- all rows do, layer by layer
pub data AllComeFromRows : List (List PlainRow) → List (List PlainRow) → Type 0 where
  come_none : AllComeFromRows [] []
  come_layer : {old new : List PlainRow} {olds news : List (List PlainRow)} → All (ComesFromRows old) new → AllComeFromRows olds news → AllComeFromRows (old ∷ olds) (new ∷ news)
