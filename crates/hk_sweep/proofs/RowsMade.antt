-- The rows that are made on the way up, and layers that are written row by row.
use Rattle.std.proofs.Common.{◌≡◌, ◌≢◌, ℕ, zero, suc, ◌+◌, ◌*◌, ◌<◌, ◌≤◌, List, [], ◌∷◌, Option, None, length, take, drop, get_or, refl, sym, ◌∙◌, ap, arith}
use Rattle.std.proofs.lemmas.List.{drop-drop, take_all, take_more_same}
use Rattle.hk_arena.proofs.RowChanges.{length-with_row, rows_of-with_row, rows_of-with_row_other}
use Rattle.hk_arena.proofs.Listing.{get_or-changed_same, length-changed}
use Rattle.hk_arena.specs.Changes.{changed, with_row}
use Rattle.hk_arena.specs.Diagrams.{DiagramLevels, IsRow, rows_of}
use Rattle.hk_arena.specs.declared.ids.RowId.{RowId}
use Rattle.hk_kinds.specs.declared.properties.Prop.{Prop}
use Rattle.hk_layers.specs.Flat.{half_at}
use Rattle.hk_layers.specs.Layers.{Half}
use Rattle.hk_table.specs.Tables.{PlainRow}
use Rattle.hk_table.specs.declared.entries.Entry.{Entry}
use Rattle.hk_sweep.specs.inside.Written.{IsLayerWritten, made_row, rows_made}

-- ---- the rows that are made

-- a row without anything
abbrev pub no_row : PlainRow
no_row = record { down = []; up = None; from = []; entries = [] }

-- there is one for each row of the way down
pub length-rows_made : (count : ℕ) (halves : List Half) (ups : List (Option (List Prop))) (entries : List Entry) → length ups ≡ length halves → length (rows_made count halves ups entries) ≡ length halves
length-rows_made count [] ups entries same = refl
length-rows_made count (half ∷ halves) [] entries same = absurd (omega (arith, same))
length-rows_made count (half ∷ halves) (up ∷ ups) entries same = ap suc (length-rows_made count halves ups (drop count entries) (omega (arith, same)))

-- the places before one row more
suc_times : (at count : ℕ) → suc at * count ≡ count + at * count
suc_times at count = omega arith

-- the row at a place
rows_made_at : (count : ℕ) (halves : List Half) (ups : List (Option (List Prop))) (entries : List Entry) (at : ℕ) → length ups ≡ length halves → at < length halves
    → get_or (rows_made count halves ups entries) at no_row ≡ made_row halves ups at (take count (drop (at * count) entries))
rows_made_at count [] ups entries at same within = absurd (omega (arith, within))
rows_made_at count (half ∷ halves) [] entries at same within = absurd (omega (arith, same))
rows_made_at count (half ∷ halves) (up ∷ ups) entries zero same within =
    let start : 0 * count ≡ 0 = omega arith in
    ap (λ first. made_row (half ∷ halves) (up ∷ ups) 0 (take count (drop first entries))) (sym start)
rows_made_at count (half ∷ halves) (up ∷ ups) entries (suc at) same within =
    rows_made_at count halves ups (drop count entries) at (omega (arith, same)) (omega (arith, within))
    ∙ (ap (λ rest. made_row halves ups at (take count rest)) (drop-drop (at * count) count entries)
    ∙ ap (λ first. made_row halves ups at (take count (drop first entries))) (sym (suc_times at count)))

-- the same, where its entries were taken out of all of them
pub made_of_part : (count : ℕ) (halves : List Half) (ups : List (Option (List Prop))) (entries part : List Entry) (at size : ℕ) → length ups ≡ length halves → at < length halves
    → size ≡ count → part ≡ take size (drop (at * size) entries) → get_or (rows_made count halves ups entries) at no_row ≡ made_row halves ups at part
made_of_part count halves ups entries part at size same within long is =
    rows_made_at count halves ups entries at same within ∙ ap (made_row halves ups at) (sym (is ∙ ap (λ n. take n (drop (at * n) entries)) long))

-- ---- layers that are written row by row

-- what stands before an item that is changed
take-changed : {X : Type 0} (at : ℕ) (change : X → X) (xs : List X) → take at (changed at change xs) ≡ take at xs
take-changed zero change xs = refl
take-changed (suc at) change [] = refl
take-changed (suc at) change (x ∷ xs) = ap (λ ys. x ∷ ys) (take-changed at change xs)

-- the first rows of a layer are these, of as many; other layers stay
pub record AreRowsWritten (layer count : ℕ) (rows : List PlainRow) (old new : List (List PlainRow)) : Type 0 where
  pub first : take count (rows_of new layer) ≡ take count rows
  pub long : length (rows_of new layer) ≡ length rows
  pub others : (other : ℕ) → other ≢ layer → rows_of new other ≡ rows_of old other
  pub layers : length new ≡ length old

module _ (layer : ℕ) (rows : List PlainRow) (old : List (List PlainRow)) where
  -- before the first row
  pub none_written : length (rows_of old layer) ≡ length rows → AreRowsWritten layer 0 rows old old
  none_written long = record { first = refl; long = long; others = λ other apart. refl; layers = refl }

  -- after the last row
  pub all_written : (count : ℕ) (new : List (List PlainRow)) → length rows ≤ count → AreRowsWritten layer count rows old new → IsLayerWritten layer rows old new
  all_written count new all is = record {
    here = sym (take_all count (rows_of new layer) (omega (arith, all, is.long))) ∙ is.first ∙ take_all count rows all;
    others = is.others;
    layers = is.layers;
  }

  -- one row more
  pub row_written : (at : ℕ) (row : PlainRow) (before after : List (List PlainRow)) → at < length rows → get_or rows at no_row ≡ row
      → AreRowsWritten layer at rows old before → after ≡ with_row (record { layer = layer; at = at }) (λ _. row) before → AreRowsWritten layer (at + 1) rows old after
  row_written at row before after within item is same =
      let id : RowId = record { layer = layer; at = at } in
      let change : PlainRow → PlainRow = λ _. row in
      let there : IsRow before id = omega (arith, within, is.long) in
      let here : rows_of after layer ≡ changed at change (rows_of before layer) = ap (λ t. rows_of t layer) same ∙ rows_of-with_row id before change there in
      let first : take at (rows_of after layer) ≡ take at rows = ap (take at) here ∙ take-changed at change (rows_of before layer) ∙ is.first in
      let count : length (rows_of after layer) ≡ length rows = ap length here ∙ length-changed at change (rows_of before layer) ∙ is.long in
      let now = ap (λ xs. get_or xs at no_row) here ∙ get_or-changed_same at change (rows_of before layer) no_row there in record {
        first = take_more_same (rows_of after layer) rows at no_row (omega (arith, within, count)) within first (now ∙ sym item);
        long = count;
        others = λ other apart. ap (λ t. rows_of t other) same ∙ rows_of-with_row_other id before change other apart ∙ is.others other apart;
        layers = ap length same ∙ length-with_row id before change ∙ is.layers;
      }

-- a row that is written of its parts
pub made_same : (layer at : ℕ) (id : RowId) (old new : List (List PlainRow)) (halves : List Half) (ups : List (Option (List Prop))) (place : ℕ) (down : List Prop) (up : Option (List Prop)) (from : List ℕ) (entries : List Entry) → id ≡ record { layer = layer; at = at }
    → down ≡ (half_at halves place).down → up ≡ get_or ups place None → from ≡ (half_at halves place).from
    → new ≡ with_row id (λ old. record { down = down; up = up; from = from; entries = entries }) old
    → new ≡ with_row (record { layer = layer; at = at }) (λ old. made_row halves ups place entries) old
made_same layer at id old new halves ups place down up from entries is downs us froms same =
    same
    ∙ (ap (λ row. with_row row (λ old. record { down = down; up = up; from = from; entries = entries }) old) is
    ∙ (ap (λ down. with_row (record { layer = layer; at = at }) (λ old. record { down = down; up = up; from = from; entries = entries }) old) downs
    ∙ (ap (λ up. with_row (record { layer = layer; at = at }) (λ old. record { down = (half_at halves place).down; up = up; from = from; entries = entries }) old) us
    ∙ ap (λ from. with_row (record { layer = layer; at = at }) (λ old. record { down = (half_at halves place).down; up = get_or ups place None; from = from; entries = entries }) old) froms)))

-- what two calls leave of a diagram but for its table
pub others_trans : (first old new : DiagramLevels) → old ≡ record first { table = old.table; numbers = old.numbers } → new ≡ record old { table = new.table; numbers = new.numbers } → new ≡ record first { table = new.table; numbers = new.numbers }
others_trans first old new before after = after ∙ ap (λ (d : DiagramLevels). record d { table = new.table; numbers = new.numbers }) before
