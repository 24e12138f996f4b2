-- The rows of a table that fits and can be told.
use Rattle.std.proofs.Common.{◌≡◌, ℕ, zero, suc, ◌+◌, ◌<◌, ◌≤◌, List, [], ◌∷◌, length, get_or, None, inl, inr, arith, sym, ap, subst}
use Rattle.std.proofs.lemmas.Bool.{cases_lt}
use Rattle.std.proofs.lemmas.List.{length-map, get_or_past}
use Rattle.std.proofs.lemmas.List.Elements.{All-from_get_or}
use Rattle.hk_arena.specs.Diagrams.{IsRow, row_in, rows_of, values_of}
use Rattle.hk_arena.specs.Supporting.{AreLiveThere}
use Rattle.hk_arena.specs.declared.ids.RowId.{RowId}
use Rattle.hk_kinds.specs.declared.kinds.Kind.{Kind}
use Rattle.hk_sweep.specs.Widths.{NamesRows, names_last, names_layer}
use Rattle.hk_table.specs.Fits.{RowFits, LayersFit, last_fits, layer_fits, Fits}
use Rattle.hk_table.specs.Items.{HasRowLine}
use Rattle.hk_table.specs.Tables.{PlainRow, PlainShape, NamesRow, by_live, layer_values}
use Rattle.hk_table.specs.declared.entries.Entry.{Entry}
use Rattle.hk_table.specs.declared.entries.Entry.TheVariants.{Gone}
use Rattle.hk_text.specs.Sets.{members}
use Rattle.hk_prop.specs.Contents.{PlainTable}
use Rattle.hk_prop.specs.inside.Revised.{ComesFromSome, IsTellable}

abbrev pub no_row : PlainRow
no_row = record { down = []; up = None; from = []; entries = [] }

-- a table that fits has a layer for each list of values, and a last one
pub fits_long : {down up : List Kind} {values : List (List ℕ)} {table : PlainTable} → LayersFit down up values table → length table ≡ suc (length values)
fits_long (last_fits rows) = omega arith
fits_long (layer_fits rows rest) = omega (arith, fits_long rest)

pub table_long : (shape : PlainShape) (table : PlainTable) → Fits shape table → length table ≡ suc (length shape.domains)
table_long shape table fits = omega (arith, fits_long fits, length-map shape.domains members)

-- a row that is there is in a layer that is there
pub layer_there : (table : PlainTable) (layer at : ℕ) → at < length (rows_of table layer) → layer < length table
layer_there table layer at inside = elim (cases_lt layer (length table)) [
  | inl within ↦ within
  | inr past ↦ let none : length (rows_of table layer) ≡ 0 = ap length (get_or_past table layer [] past) in absurd (omega arith)
]

fits_at : {down up : List Kind} {values : List (List ℕ)} {table : PlainTable} → LayersFit down up values table → (layer at : ℕ) → at < length (get_or table layer []) → RowFits down up (get_or values layer []) (get_or (get_or table layer []) at no_row)
fits_at (last_fits rows) zero at inside = rows at no_row inside
fits_at (last_fits {last = last} rows) (suc k) at inside = absurd (let there = layer_there (last ∷ []) (suc k) at inside in omega arith)
fits_at (layer_fits rows rest) zero at inside = rows at no_row inside
fits_at (layer_fits rows rest) (suc k) at inside = fits_at rest k at inside

pub row_fits : (shape : PlainShape) (table : PlainTable) (row : RowId) → Fits shape table → IsRow table row → RowFits shape.down shape.up (values_of shape row.layer) (row_in table row)
row_fits shape table row fits is = fits_at fits row.layer row.at is

names_at : {table : PlainTable} → NamesRows table → (layer at place c : ℕ) → suc layer < length table → at < length (get_or table layer []) → place < length (get_or (get_or table layer []) at no_row).entries
    → NamesRow (get_or (get_or (get_or table layer []) at no_row).entries place Gone) c → c < length (get_or table (suc layer) [])
names_at names_last layer at place c below inside within names = absurd (omega arith)
names_at (names_layer rows rest) zero at place c below inside within names = rows at no_row inside place Gone within c names
names_at (names_layer rows rest) (suc k) at place c below inside within names = names_at rest k at place c (omega arith) inside within names

-- each Live entry of a table that names its rows leads to a row that is there
pub live_there : (shape : PlainShape) (table : PlainTable) → Fits shape table → NamesRows table → AreLiveThere shape table
live_there shape table fits names id next is live =
    let long = (row_fits shape table id.row fits is.row).long in
    let more : suc id.row.layer ≡ id.row.layer + 1 = omega arith in
    subst (λ layer. next < length (rows_of table layer)) more
    (names_at names id.row.layer id.row.at id.at next (omega (arith, table_long shape table fits, is.layer)) is.row (omega (arith, long, is.place)) (subst (λ entry. NamesRow entry next) (sym live) by_live))

-- a row of such a table has a line
pub row_line : (shape : PlainShape) (table : PlainTable) (row : RowId) → Fits shape table → ((layer : ℕ) → length (rows_of table layer) ≤ 256) → IsTellable table → IsRow table row → HasRowLine (row_in table row)
row_line shape table row fits few tellable is =
    let fit = row_fits shape table row fits is in
    let within : row.layer < length table = layer_there table row.layer row.at is in
    let comes : ComesFromSome (row_in table row) = tellable.comes row.layer [] within row.at no_row is in
    record {
      down = record { kinds = shape.down; shape = fit.down_shape };
      up = λ state own. record { kinds = shape.up; shape = fit.up_shape state own };
      comes = comes.some;
      from = comes.small;
      entries = All-from_get_or (λ (entry : Entry). (c : ℕ) → NamesRow entry c → c < 256) (row_in table row).entries Gone (λ place there c names. elim (cases_lt (suc row.layer) (length table)) [
        | inl below ↦
            let few_next = few (suc row.layer) in
            omega (arith, few_next, names_at tellable.names row.layer row.at place c below is there names)
        | inr last ↦
            let none : length (values_of shape row.layer) ≡ 0 = ap length (get_or_past (layer_values shape) row.layer [] (omega (arith, table_long shape table fits, length-map shape.domains members, last))) in
            absurd (omega (arith, fit.long, none, there))
      ]);
    }
