-- Rows of a layer whose entries become Gone, one row after the other.
use Rattle.std.proofs.Common.{◌≡◌, ◌≢◌, ℕ, ◌+◌, ◌*◌, ◌<◌, ◌≤◌, List, [], length, map, get_or, None, refl, sym, ◌∙◌, ap, ap₂, subst, inl, inr, arith, mul-le-mul_right}
use Rattle.std.proofs.lemmas.Bool.{cases_eq}
use Rattle.std.proofs.lemmas.List.{get_or_default}
use Rattle.hk_table.specs.Tables.{PlainRow, PlainShape}
use Rattle.hk_table.specs.declared.entries.Entry.TheVariants.{Gone}
use Rattle.hk_trail.specs.Levels.{Levels}
use Rattle.hk_trail.specs.Places.{cell_count}
use Rattle.hk_trail.specs.Pools.{Content}
use Rattle.hk_arena.proofs.EntryReads.{entry_read}
use Rattle.hk_arena.proofs.Listing.{get_or-changed_other, length-changed}
use Rattle.hk_arena.proofs.Numbering.{IsRaised-more, IsRaised-within}
use Rattle.hk_arena.proofs.RowChanges.{length-with_row, rows_of-with_row, rows_of-with_row_other}
use Rattle.hk_arena.proofs.SupportSteps.{row_long}
use Rattle.hk_arena.proofs.WholeRows.{HoldEntries}
use Rattle.hk_arena.specs.Changes.{IsChangedFrom, IsEmptyRow, IsRowChanged, with_row}
use Rattle.hk_arena.specs.Diagrams.{IsRow, row_in, rows_of, values_of}
use Rattle.hk_arena.specs.declared.ids.RowId.{RowId}
use Rattle.hk_arena.specs.Cells.{table_of}
use Rattle.hk_arena.specs.Forms.{Form, words_at}
use Rattle.hk_arena.specs.Kept.{IsKept}
use Rattle.hk_arena.specs.inside.LayerWrites.{AreRowsWritten}
use Rattle.hk_arena.specs.inside.Writes.{IsRowWritten}

-- a row whose words hold Gone alone has Gone entries alone
pub row_empty : (form : Form) (content : Content) (row : RowId) → IsKept form content → IsRow (table_of form content) row → HoldEntries (words_at form row.layer row.at + 1) [] (length (values_of form.shape row.layer)) content.words → IsEmptyRow (row_in (table_of form content) row)
row_empty form content row kept is held = λ k d within.
    let entries = (row_in (table_of form content) row).entries in
    let below : k < length (values_of form.shape row.layer) = omega (arith, row_long form content row kept is) in
    get_or_default entries k d Gone within ∙ sym (entry_read form content row k kept is below) ∙ held k below

-- ---- the table

pub IsChangedFrom-none : (layer rows : ℕ) (table : List (List PlainRow)) → IsChangedFrom layer rows table table
IsChangedFrom-none layer rows table = record { layers = refl; others = λ other apart. refl; count = refl; stay = λ row same below. refl }

module _ (shape : PlainShape) (layer at : ℕ) (old new : List (List PlainRow)) (is : IsRow old (record { layer = layer; at = at })) (changed : IsRowChanged shape (record { layer = layer; at = at }) old new) where
  abbrev this : RowId
  this = record { layer = layer; at = at }

  -- the rows of the layer are those that were there, but for one
  rows_now : rows_of new layer ≡ rows_of (with_row this (λ _. changed.now) old) layer
  rows_now = ap (λ table. rows_of table layer) changed.table

  -- another row of the layer stays
  pub row_stays : (row : RowId) → row.layer ≡ layer → row.at ≢ at → row_in new row ≡ row_in old row
  row_stays row same apart =
      let none : PlainRow = record { down = []; up = None; from = []; entries = [] } in
      ap (λ l. get_or (rows_of new l) row.at none) same
      ∙ ap (λ rows. get_or rows row.at none) (rows_now ∙ rows_of-with_row this old (λ _. changed.now) is)
      ∙ get_or-changed_other at (λ _. changed.now) (rows_of old layer) row.at none apart
      ∙ ap (λ l. get_or (rows_of old l) row.at none) (sym same)

  -- a change of one row more, which is one of those that may change
  pub IsChangedFrom-row : (rows : ℕ) (first : List (List PlainRow)) → rows ≤ at → IsChangedFrom layer rows first old → IsChangedFrom layer rows first new
  IsChangedFrom-row rows first above before = record {
    layers = ap length changed.table ∙ length-with_row this old (λ _. changed.now) ∙ before.layers;
    others = λ other apart. ap (λ table. rows_of table other) changed.table ∙ rows_of-with_row_other this old (λ _. changed.now) other apart ∙ before.others other apart;
    count = ap length (rows_now ∙ rows_of-with_row this old (λ _. changed.now) is) ∙ length-changed at (λ _. changed.now) (rows_of old layer) ∙ before.count;
    stay = λ row same below. row_stays row same (omega arith) ∙ before.stay row same below;
  }

-- the rows of a layer from one on up to another have Gone entries alone
abbrev pub AreEmptyUpTo : List (List PlainRow) → ℕ → ℕ → ℕ → Type 0
AreEmptyUpTo table layer rows at = (row : RowId) → row.layer ≡ layer → rows ≤ row.at → row.at < at → IsEmptyRow (row_in table row)

-- one row more has
pub AreEmptyUpTo-more : (shape : PlainShape) (layer rows at : ℕ) (old new : List (List PlainRow)) → IsRow old (record { layer = layer; at = at }) → IsRowChanged shape (record { layer = layer; at = at }) old new → IsEmptyRow (row_in new (record { layer = layer; at = at })) → AreEmptyUpTo old layer rows at → AreEmptyUpTo new layer rows (at + 1)
AreEmptyUpTo-more shape layer rows at old new is changed empty before = λ row same above below. elim (cases_eq row.at at) [
  | inl here ↦ subst IsEmptyRow (ap₂ (λ l a. row_in new (record { layer = l; at = a })) (sym same) (sym here)) empty
  | inr apart ↦ subst IsEmptyRow (sym (row_stays shape layer at old new is changed row same apart)) (before row same above (omega arith))
]

-- ---- the store

-- so many cells a row, for one row more, and for no more rows than there can be
pub cells_more : (at size : ℕ) → at * size + size ≤ (at + 1) * size
cells_more at size = let same : at * size + size ≡ (at + 1) * size = grind arith in omega arith

pub cells_within : (at width size : ℕ) → at < width → at * size + size ≤ width * size
cells_within at width size within =
    let all : (at + 1) * size ≤ width * size = mul-le-mul_right size (omega arith) in
    let more = cells_more at size in
    omega arith

-- a write of one row more
pub rows_written : (form : Form) (layer rows at before more most : ℕ) (old middle new : Levels) → rows ≤ at → before + more ≤ most → IsRow (table_of form middle.content) (record { layer = layer; at = at }) → AreRowsWritten form layer rows before old middle → IsRowWritten form (record { layer = layer; at = at }) more middle new → AreRowsWritten form layer rows most old new
rows_written form layer rows at before more most old middle new above within is first second = record {
  kept = second.kept;
  changed = IsChangedFrom-row form.shape layer at (table_of form middle.content) (table_of form new.content) is second.changed rows (table_of form old.content) above first.changed;
  stack = second.stack ∙ first.stack;
  raised = IsRaised-within (before + more) most (map cell_count old.written) (map cell_count new.written) within (IsRaised-more before more (map cell_count old.written) (map cell_count middle.written) (map cell_count new.written) first.raised second.raised);
}
