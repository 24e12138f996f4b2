-- What the rows of cells are, to who asks what they support.
use Rattle.std.proofs.Common.{◌≡◌, ℕ, ◌+◌, ◌<◌, ◌≤◌, List, [], ◌∷◌, None, Some, length, drop, refl, ◌∙◌, ap, arith}
use Rattle.std.specs.List.{slice_get}
use Rattle.std.proofs.lemmas.List.{drop_more, get_or_default, length-map}
use Rattle.std.proofs.lemmas.Option.{slice_get_read}
use Rattle.hk_table.specs.Tables.{PlainRow, PlainShape, layer_values}
use Rattle.hk_text.specs.Sets.{members}
use Rattle.hk_trail.specs.Pools.{Content}
use Rattle.hk_arena.proofs.Fitting.{few_rows, row_fits}
use Rattle.hk_arena.proofs.Framing.{there, row_in-table_of}
use Rattle.hk_arena.proofs.Listing.{length-listed}
use Rattle.hk_arena.specs.Diagrams.{IsRow, row_in, rows_of, values_of}
use Rattle.hk_arena.specs.declared.ids.RowId.{RowId}
use Rattle.hk_arena.specs.Cells.{listed, row_at, row_count, table_of}
use Rattle.hk_arena.specs.Forms.{Form, layer_count}
use Rattle.hk_arena.specs.Kept.{IsKept, IsSmall}

-- a row that is there has an entry for each value
pub row_long : (form : Form) (content : Content) (row : RowId) → IsKept form content → IsRow (table_of form content) row → length (row_in (table_of form content) row).entries ≡ length (values_of form.shape row.layer)
row_long form content row kept is =
    let lies = there form content row kept is in
    ap (λ (r : PlainRow). length r.entries) (row_in-table_of form content row lies) ∙ (row_fits form content row.layer row.at kept lies.place).long

-- a layer has at most 256 rows
pub rows_few : (form : Form) (content : Content) (layer : ℕ) → IsKept form content → IsSmall form → length (rows_of (table_of form content) layer) ≤ 256
rows_few form content layer kept small = omega (arith, few_rows form content layer kept, small.width)

-- a row that is there is one of its layer's
pub row_there : (table : List (List PlainRow)) (row : RowId) → IsRow table row → slice_get (rows_of table row.layer) row.at ≡ Some (row_in table row)
row_there table row is =
    let rows = rows_of table row.layer in
    slice_get_read rows (length rows) row.at (row_in table row) refl is (get_or_default rows row.at (record { down = []; up = None; from = []; entries = [] }) (row_in table row) is)

-- the values of a layer, and its rows, stand before those of the layers after it
pub values_first : (shape : PlainShape) (layer : ℕ) → layer < length shape.domains → drop layer (layer_values shape) ≡ values_of shape layer ∷ drop (layer + 1) (layer_values shape)
values_first shape layer within = drop_more (layer_values shape) layer [] (omega (arith, length-map shape.domains members))

pub rows_first : (form : Form) (content : Content) (layer : ℕ) → layer < layer_count form → drop layer (table_of form content) ≡ rows_of (table_of form content) layer ∷ drop (layer + 1) (table_of form content)
unfolding table_of
rows_first form content layer within =
    drop_more (table_of form content) layer [] (omega (arith, length-listed (layer_count form) (λ l. listed (row_count content l) (row_at form content l))))
