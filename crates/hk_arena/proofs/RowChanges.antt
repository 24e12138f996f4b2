-- Tables with a row changed: twice, in the same way, and as rows are read from them.
use Rattle.std.proofs.Common.{◌≡◌, ◌≢◌, ℕ, zero, suc, ◌<◌, List, [], ◌∷◌, None, length, get_or, refl, ◌∙◌, ap, inl, inr, arith}
use Rattle.std.proofs.lemmas.Bool.{cases_lt}
use Rattle.std.proofs.lemmas.List.{get_or_past}
use Rattle.hk_table.specs.Tables.{PlainRow}
use Rattle.hk_arena.proofs.Listing.{get_or-changed_same, get_or-changed_other, length-changed}
use Rattle.hk_arena.specs.Changes.{changed, with_row}
use Rattle.hk_arena.specs.Diagrams.{IsRow, row_in, rows_of}
use Rattle.hk_arena.specs.declared.ids.RowId.{RowId}

-- two changes of one item are one
changed-twice : {X : Type 0} (at : ℕ) (first second : X → X) (items : List X) → changed at second (changed at first items) ≡ changed at (λ x. second (first x)) items
changed-twice at first second [] = refl
changed-twice zero first second (x ∷ xs) = refl
changed-twice (suc at) first second (x ∷ xs) = ap (λ ys. x ∷ ys) (changed-twice at first second xs)

-- changes that make the same of the item are the same
changed-alike : {X : Type 0} (at : ℕ) (one other : X → X) (items : List X) (d : X) → one (get_or items at d) ≡ other (get_or items at d) → changed at one items ≡ changed at other items
changed-alike at one other [] d alike = refl
changed-alike zero one other (x ∷ xs) d alike = ap (λ y. y ∷ xs) alike
changed-alike (suc at) one other (x ∷ xs) d alike = ap (λ ys. x ∷ ys) (changed-alike at one other xs d alike)

-- a change that leaves the item leaves the list
changed-none : {X : Type 0} (at : ℕ) (change : X → X) (items : List X) (d : X) → change (get_or items at d) ≡ get_or items at d → changed at change items ≡ items
changed-none at change [] d none = refl
changed-none zero change (x ∷ xs) d none = ap (λ y. y ∷ xs) none
changed-none (suc at) change (x ∷ xs) d none = ap (λ ys. x ∷ ys) (changed-none at change xs d none)

module _ (row : RowId) (table : List (List PlainRow)) where
  pub with_row-twice : (first second : PlainRow → PlainRow) → with_row row second (with_row row first table) ≡ with_row row (λ r. second (first r)) table
  with_row-twice first second =
      changed-twice row.layer (changed row.at first) (changed row.at second) table
      ∙ changed-alike row.layer (λ rows. changed row.at second (changed row.at first rows)) (changed row.at (λ r. second (first r))) table [] (changed-twice row.at first second (rows_of table row.layer))

  pub with_row-alike : (one other : PlainRow → PlainRow) → one (row_in table row) ≡ other (row_in table row) → with_row row one table ≡ with_row row other table
  with_row-alike one other alike = changed-alike row.layer (changed row.at one) (changed row.at other) table [] (changed-alike row.at one other (rows_of table row.layer) (record { down = []; up = None; from = []; entries = [] }) alike)

  pub with_row-none : (change : PlainRow → PlainRow) → change (row_in table row) ≡ row_in table row → with_row row change table ≡ table
  with_row-none change none = changed-none row.layer (changed row.at change) table [] (changed-none row.at change (rows_of table row.layer) (record { down = []; up = None; from = []; entries = [] }) none)

  layer_there : IsRow table row → row.layer < length table
  layer_there is = elim (cases_lt row.layer (length table)) [
    | inl within ↦ within
    | inr past ↦ let none = ap length (get_or_past table row.layer [] past) in absurd (omega arith)
  ]

  -- the rows of its layer, of another one, and the row itself
  pub rows_of-with_row : (change : PlainRow → PlainRow) → IsRow table row → rows_of (with_row row change table) row.layer ≡ changed row.at change (rows_of table row.layer)
  rows_of-with_row change is = get_or-changed_same row.layer (changed row.at change) table [] (layer_there is)

  pub rows_of-with_row_other : (change : PlainRow → PlainRow) (other : ℕ) → other ≢ row.layer → rows_of (with_row row change table) other ≡ rows_of table other
  rows_of-with_row_other change other apart = get_or-changed_other row.layer (changed row.at change) table other [] apart

  pub length-with_row : (change : PlainRow → PlainRow) → length (with_row row change table) ≡ length table
  length-with_row change = length-changed row.layer (changed row.at change) table

  -- a row that is there stays there
  pub IsRow-with_row : (change : PlainRow → PlainRow) → IsRow table row → IsRow (with_row row change table) row
  IsRow-with_row change is = omega (arith, ap length (rows_of-with_row change is), length-changed row.at change (rows_of table row.layer))

  pub row_in-with_row : (change : PlainRow → PlainRow) → IsRow table row → row_in (with_row row change table) row ≡ change (row_in table row)
  row_in-with_row change is =
      let none : PlainRow = record { down = []; up = None; from = []; entries = [] } in
      ap (λ rows. get_or rows row.at none) (rows_of-with_row change is) ∙ get_or-changed_same row.at change (rows_of table row.layer) none is
