-- Changes of one row: they leave all others, and what they do to the table.
use Rattle.std.proofs.Common.{◌≡◌, ℕ, ◌+◌, ◌<◌, ◌≤◌, ◌⊎◌, List, [], length, get_or, set, refl, sym, ◌∙◌, ap, subst, inl, inr, None, arith, All, length-set, get_or-set_other}
use Rattle.std.proofs.lemmas.Bool.{cases_lt}
use Rattle.hk_kinds.specs.Limits.{IsWithinLimit}
use Rattle.hk_kinds.specs.Sets.{IsSet}
use Rattle.hk_table.specs.Tables.{PlainRow}
use Rattle.hk_table.specs.declared.entries.Entry.TheVariants.{Gone}
use Rattle.hk_trail.specs.Pools.{Content}
use Rattle.hk_arena.proofs.Listing.{length-listed, get_or-listed, get_or-listed_past, listed-same, changed-listed}
use Rattle.hk_arena.proofs.Parts.{part-set, part-set_apart}
use Rattle.hk_arena.proofs.Places.{row_place-apart}
use Rattle.hk_arena.specs.Changes.{changed, with_row}
use Rattle.hk_arena.specs.Diagrams.{rows_of, IsRow, row_in}
use Rattle.hk_arena.specs.declared.ids.RowId.{RowId}
use Rattle.hk_arena.specs.Cells.{listed, cells_of, entries_of, row_of, row_at, row_count, table_of}
use Rattle.hk_arena.specs.Forms.{Form, layer_count, row_words, row_place, words_at}
use Rattle.hk_arena.specs.Kept.{IsKept}
use Rattle.hk_arena.specs.inside.OneRow.{IsPlace, IsOneRow}

-- ---- rows that are there

-- the rows of a layer, and none past the last
pub rows_of-listed : (form : Form) (content : Content) (layer : ℕ) → layer < layer_count form → rows_of (table_of form content) layer ≡ listed (row_count content layer) (row_at form content layer)
unfolding table_of
rows_of-listed form content layer within = get_or-listed (layer_count form) (λ l. listed (row_count content l) (row_at form content l)) layer [] within

pub rows_of-past : (form : Form) (content : Content) (layer : ℕ) → layer_count form ≤ layer → rows_of (table_of form content) layer ≡ []
unfolding table_of
rows_of-past form content layer past = get_or-listed_past (layer_count form) (λ l. listed (row_count content l) (row_at form content l)) layer [] past

pub length-rows_of : (form : Form) (content : Content) (layer : ℕ) → layer < layer_count form → length (rows_of (table_of form content) layer) ≡ row_count content layer
length-rows_of form content layer within = ap length (rows_of-listed form content layer within) ∙ length-listed (row_count content layer) (row_at form content layer)

-- a row that is there: where it lies, and that it is one of its layer's
pub record IsThere (form : Form) (content : Content) (layer at : ℕ) : Type 0 where
  pub place : IsPlace form layer at
  pub within : at < row_count content layer

pub there : (form : Form) (content : Content) (row : RowId) → IsKept form content → IsRow (table_of form content) row → IsThere form content row.layer row.at
there form content row kept is = elim (cases_lt row.layer (layer_count form)) [
  | inl within ↦
      let count = length-rows_of form content row.layer within in
      let few = kept.counts row.layer within in
      record { place = record { layer_within = within; row_within = omega arith }; within = omega arith }
  | inr past ↦
      let none : length (rows_of (table_of form content) row.layer) ≡ 0 = ap length (rows_of-past form content row.layer past) in
      absurd (omega arith)
]

-- the row that a table has is the one that the cells hold
pub row_in-table_of : (form : Form) (content : Content) (row : RowId) → IsThere form content row.layer row.at → row_in (table_of form content) row ≡ row_at form content row.layer row.at
row_in-table_of form content row is =
    let none : PlainRow = record { down = []; up = None; from = []; entries = [] } in
    ap (λ rows. get_or rows row.at none) (rows_of-listed form content row.layer is.place.layer_within)
    ∙ get_or-listed (row_count content row.layer) (row_at form content row.layer) row.at none is.within

-- ---- writes of one row's cells

-- a cell of one row doesn't lie in another
cell_apart : (size : ℕ → ℕ) (width l r layer at k : ℕ) → r < width → at < width → ((l ≡ layer) × (r ≡ at) → ⊥) → k < size layer → (row_place size width layer at + k < row_place size width l r) ⊎ (row_place size width l r + size l ≤ row_place size width layer at + k)
cell_apart size width l r layer at k r_within at_within apart below = elim (row_place-apart size width l r layer at r_within at_within apart) [
  | inl before ↦ inr (omega arith)
  | inr after ↦ inl (omega arith)
]

pub IsOneRow-word : (form : Form) (layer at k : ℕ) (content : Content) (value : ℕ) → IsPlace form layer at → k < row_words form layer → IsOneRow form layer at content (record content { words = set content.words (words_at form layer at + k) value })
IsOneRow-word form layer at k content value is below = record {
  others = λ l r place apart.
      let beyond : (words_at form layer at + k < words_at form l r) ⊎ (words_at form l r + row_words form l ≤ words_at form layer at + k) = elim (cell_apart (row_words form) form.width l r layer at k place.row_within is.row_within apart below) [
        | inl before ↦ inl (omega arith)
        | inr after ↦ inr (omega arith)
      ] in
      ap (λ words. record (cells_of form content l r) { words = words })
      (part-set_apart (words_at form l r) (row_words form l) content.words (words_at form layer at + k) value beyond);
  counts = λ l within. get_or-set_other content.words (words_at form layer at + k) l value 0 (omega arith);
  nums = refl;
  bits = refl;
  words = length-set content.words (words_at form layer at + k) value;
}

-- what such a write does to the row's own cells
pub cells_of-word : (form : Form) (layer at k : ℕ) (content : Content) (value : ℕ) → k < row_words form layer → cells_of form (record content { words = set content.words (words_at form layer at + k) value }) layer at ≡ record (cells_of form content layer at) { words = set (cells_of form content layer at).words k value }
cells_of-word form layer at k content value below =
    ap (λ words. record (cells_of form content layer at) { words = words }) (part-set (words_at form layer at) (row_words form layer) content.words k value below)

-- ---- the table after a change of one row

pub row_at-other : (form : Form) (layer at : ℕ) (old new : Content) (l r : ℕ) → IsOneRow form layer at old new → IsPlace form l r → ((l ≡ layer) × (r ≡ at) → ⊥) → row_at form new l r ≡ row_at form old l r
unfolding row_at
row_at-other form layer at old new l r one place apart = ap (row_of form) (one.others l r place apart)

pub table_of-one_row : (form : Form) (layer at : ℕ) (change : PlainRow → PlainRow) (old new : Content) → IsKept form old → IsOneRow form layer at old new → (IsThere form old layer at → row_of form (cells_of form new layer at) ≡ change (row_of form (cells_of form old layer at))) → table_of form new ≡ with_row (record { layer = layer; at = at }) change (table_of form old)
unfolding table_of row_at
table_of-one_row form layer at change old new kept one now =
    let rows : Content → ℕ → List PlainRow = λ content l. listed (row_count content l) (row_at form content l) in
    changed-listed (layer_count form) layer (changed at change) (rows old) (rows new)
    (λ l below apart.
    ap (λ count. listed count (row_at form new l)) (one.counts l below)
    ∙ listed-same (row_count old l) (row_at form new l) (row_at form old l) (λ r within.
    let few = kept.counts l below in
    row_at-other form layer at old new l r one (record { layer_within = below; row_within = omega arith }) (λ both. apart both.0)))
    (λ below.
    ap (λ count. listed count (row_at form new layer)) (one.counts layer below)
    ∙ changed-listed (row_count old layer) at change (row_at form old layer) (row_at form new layer)
    (λ r within apart.
    let few = kept.counts layer below in
    row_at-other form layer at old new layer r one (record { layer_within = below; row_within = omega arith }) (λ both. apart both.1))
    (λ within.
    let few = kept.counts layer below in
    now (record { place = record { layer_within = below; row_within = omega arith }; within = within })))

-- cells stay kept where a row that is there changed
pub IsKept-one_row : (form : Form) (layer at : ℕ) (old new : Content) → IsKept form old → IsOneRow form layer at old new → at < row_count old layer → All IsWithinLimit new.nums → All IsSet new.bits → IsKept form new
IsKept-one_row form layer at old new kept one within limits sets = record {
  nums = one.nums ∙ kept.nums;
  bits = one.bits ∙ kept.bits;
  words = one.words ∙ kept.words;
  limits = limits;
  sets = sets;
  counts = λ l below. let same = one.counts l below in let few = kept.counts l below in omega arith;
  empty = λ l r below past row_within.
      let same = one.counts l below in
      let place : IsPlace form l r = record { layer_within = below; row_within = row_within } in
      let apart : (l ≡ layer) × (r ≡ at) → ⊥ = λ both. let count = ap (row_count old) both.0 in omega arith in
      subst (λ (cells : Content). All (λ entry. entry ≡ Gone) (entries_of cells.words)) (sym (one.others l r place apart))
      (kept.empty l r below (omega arith) row_within);
}
