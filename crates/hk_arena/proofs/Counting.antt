-- Changes of how many rows a layer has.
use Rattle.std.proofs.Common.{◌≡◌, ◌≢◌, ℕ, ◌<◌, ◌≤◌, set, sym, ◌∙◌, ap, subst, inl, inr, arith, All, length-set, get_or-set_same, get_or-set_other}
use Rattle.std.proofs.lemmas.Bool.{cases_eq, cases_lt}
use Rattle.hk_table.specs.declared.entries.Entry.TheVariants.{Gone}
use Rattle.hk_trail.specs.Pools.{Content}
use Rattle.hk_arena.proofs.Fitting.{row_fits}
use Rattle.hk_arena.proofs.Framing.{IsThere, length-rows_of, row_in-table_of, rows_of-listed, rows_of-past}
use Rattle.hk_arena.proofs.Listing.{length-listed, listed-same}
use Rattle.hk_arena.proofs.Parts.{part-set_apart}
use Rattle.hk_arena.specs.Changes.{AreEmptyFrom, IsAddedRow, IsEmptyRow, IsResized}
use Rattle.hk_arena.specs.Diagrams.{rows_of, row_in}
use Rattle.hk_arena.specs.declared.ids.RowId.{RowId}
use Rattle.hk_arena.specs.Cells.{listed, cells_of, entries_of, row_of, row_at, row_count, table_of}
use Rattle.hk_arena.specs.Forms.{Form, layer_count, row_words, words_at}
use Rattle.hk_arena.specs.Kept.{IsKept}
use Rattle.hk_arena.specs.inside.OneRow.{IsPlace}

-- cells with another number of rows of a layer
abbrev counted : Content → ℕ → ℕ → Content
counted content layer rows = record content { words = set content.words layer rows }

-- the cells of all rows are as they were
cells_of-counted : (form : Form) (content : Content) (layer rows l r : ℕ) → layer < layer_count form → cells_of form (counted content layer rows) l r ≡ cells_of form content l r
cells_of-counted form content layer rows l r within =
    ap (λ words. record (cells_of form content l r) { words = words }) (part-set_apart (words_at form l r) (row_words form l) content.words layer rows (inl (omega arith)))

row_at-counted : (form : Form) (content : Content) (layer rows l r : ℕ) → layer < layer_count form → row_at form (counted content layer rows) l r ≡ row_at form content l r
unfolding row_at
row_at-counted form content layer rows l r within = ap (row_of form) (cells_of-counted form content layer rows l r within)

row_at-empty : (form : Form) (content : Content) (layer at : ℕ) → IsEmptyRow (row_at form content layer at) → All (λ entry. entry ≡ Gone) (entries_of (cells_of form content layer at).words)
unfolding row_at
row_at-empty form content layer at empty = empty

empty-row_at : (form : Form) (content : Content) (layer at : ℕ) → All (λ entry. entry ≡ Gone) (entries_of (cells_of form content layer at).words) → IsEmptyRow (row_at form content layer at)
unfolding row_at
empty-row_at form content layer at empty = empty

module _ (form : Form) (content : Content) (layer rows : ℕ) (kept : IsKept form content) (within : layer < layer_count form) (few : rows ≤ form.width) where
  now_count : row_count (counted content layer rows) layer ≡ rows
  now_count = get_or-set_same content.words layer rows 0 (omega (arith, kept.words))

  other_count : (l : ℕ) → l ≢ layer → row_count (counted content layer rows) l ≡ row_count content l
  other_count l apart = get_or-set_other content.words layer l rows 0 apart

  -- the rows past the number have Gone entries alone
  past_empty : AreEmptyFrom (table_of form content) layer rows → (l r : ℕ) → l < layer_count form → row_count (counted content layer rows) l ≤ r → r < form.width → All (λ entry. entry ≡ Gone) (entries_of (cells_of form content l r).words)
  past_empty empty l r below past r_within = elim (cases_eq l layer) [
    | inl same ↦ elim (cases_lt r (row_count content l)) [
      | inl was_there ↦
          let row : RowId = record { layer = l; at = r } in
          let is : IsThere form content l r = record { place = record { layer_within = below; row_within = r_within }; within = was_there } in
          let count = now_count in
          let same_count = ap (row_count (counted content layer rows)) same in
          let same_old = ap (row_count content) same in
          let long = length-rows_of form content layer within in
          row_at-empty form content l r (subst IsEmptyRow (row_in-table_of form content row is) (empty row same (omega arith) (omega arith)))
      | inr was_past ↦ kept.empty l r below was_past r_within
    ]
    | inr apart ↦ let count = other_count l apart in kept.empty l r below (omega arith) r_within
  ]

  pub IsKept-counted : AreEmptyFrom (table_of form content) layer rows → IsKept form (counted content layer rows)
  IsKept-counted empty = record {
    nums = kept.nums;
    bits = kept.bits;
    words = length-set content.words layer rows ∙ kept.words;
    limits = kept.limits;
    sets = kept.sets;
    counts = λ l below. elim (cases_eq l layer) [
      | inl same ↦ rw same (rw now_count few)
      | inr apart ↦ let count = other_count l apart in let before = kept.counts l below in omega arith
    ];
    empty = λ l r below past r_within.
        subst (λ (cells : Content). All (λ entry. entry ≡ Gone) (entries_of cells.words)) (sym (cells_of-counted form content layer rows l r within)) (past_empty empty l r below past r_within);
  }

  other_rows : (l : ℕ) → l ≢ layer → rows_of (table_of form (counted content layer rows)) l ≡ rows_of (table_of form content) l
  other_rows l apart = elim (cases_lt l (layer_count form)) [
    | inl below ↦
        rows_of-listed form (counted content layer rows) l below
        ∙ ap (λ count. listed count (row_at form (counted content layer rows) l)) (other_count l apart)
        ∙ listed-same (row_count content l) (row_at form (counted content layer rows) l) (row_at form content l) (λ r r_within. row_at-counted form content layer rows l r within)
        ∙ sym (rows_of-listed form content l below)
    | inr past ↦ rows_of-past form (counted content layer rows) l past ∙ sym (rows_of-past form content l past)
  ]

  -- a row that is there now is the one that the cells held
  row_now : (row : RowId) → row.layer ≡ layer → row.at < rows → row_in (table_of form (counted content layer rows)) row ≡ row_at form content row.layer row.at
  row_now row same below =
      let count = now_count in
      let same_count = ap (row_count (counted content layer rows)) same in
      row_in-table_of form (counted content layer rows) row (record { place = record { layer_within = omega arith; row_within = omega arith }; within = omega arith })
      ∙ row_at-counted form content layer rows row.layer row.at within

  pub IsResized-counted : AreEmptyFrom (table_of form content) layer rows → IsResized form.shape layer rows (table_of form content) (table_of form (counted content layer rows))
  unfolding table_of
  IsResized-counted empty = record {
    layers =
        length-listed (layer_count form) (λ l. listed (row_count (counted content layer rows) l) (row_at form (counted content layer rows) l))
        ∙ sym (length-listed (layer_count form) (λ l. listed (row_count content l) (row_at form content l)));
    others = other_rows;
    count = length-rows_of form (counted content layer rows) layer within ∙ now_count;
    stay = λ row same below was_there.
        let long = length-rows_of form content layer within in
        let same_count = ap (row_count content) same in
        row_now row same below
        ∙ sym (row_in-table_of form content row (record { place = record { layer_within = omega arith; row_within = omega arith }; within = omega arith }));
    added = λ row same below was_past.
        let long = length-rows_of form content layer within in
        let same_count = ap (row_count content) same in
        let place : IsPlace form row.layer row.at = record { layer_within = omega arith; row_within = omega arith } in
        subst (IsAddedRow form.shape layer) (sym (row_now row same below))
        (subst (λ l. IsAddedRow form.shape l (row_at form content row.layer row.at)) same
        (record {
          fits = row_fits form content row.layer row.at kept place;
          empty = empty-row_at form content row.layer row.at (kept.empty row.layer row.at place.layer_within (omega arith) place.row_within);
        }));
  }
