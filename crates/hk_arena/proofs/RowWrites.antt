-- Writes of a row's cells: what the row then is, and that the others stay.
use Rattle.std.proofs.Common.{◌≡◌, ℕ, pos, suc, ◌+◌, ◌*◌, ◌^◌, ◌==◌, ◌<◌, ◌≤◌, ◌⊎◌, List, [], ◌∷◌, length, map, drop, get_or, None, Some, Option, refl, sym, ◌∙◌, ap, ap₂, inl, inr, arith, length-take, length-drop}
use Rattle.std.specs.Prelude.{if◌then◌else◌}
use Rattle.std.proofs.lemmas.List.{same_lists}
use Rattle.hk_kinds.specs.declared.kinds.Kind.{Kind}
use Rattle.hk_kinds.specs.declared.properties.Prop.{Prop}
use Rattle.hk_table.specs.Tables.{PlainRow}
use Rattle.hk_table.specs.declared.entries.Entry.{Entry}
use Rattle.hk_trail.specs.Levels.{Levels}
use Rattle.hk_trail.specs.Pools.{Content}
use Rattle.hk_arena.proofs.Fitting.{row_fits}
use Rattle.hk_arena.proofs.Framing.{there, row_in-table_of, table_of-one_row, IsKept-one_row}
use Rattle.hk_arena.proofs.Parts.{get_or-part}
use Rattle.hk_arena.proofs.Places.{row_place-apart, nums_within, bits_within}
use Rattle.hk_arena.proofs.Properties.{state_same}
use Rattle.hk_arena.proofs.Writing.{AreInside, IsTouched-wider, IsWritten-part, IsWritten-wider, inside_itself, inside_none, inside_part}
use Rattle.hk_arena.specs.Changes.{with_row, with_down, with_up, with_from}
use Rattle.hk_arena.specs.inside.Writes.{with_entries, Span, Spans, state_spans, word_spans, row_spans, IsOutside, IsChangedWithin, IsTouched, IsWritten, HasRoom, IsRowWritten}
use Rattle.hk_arena.specs.Diagrams.{IsRow, row_in, values_of}
use Rattle.hk_arena.specs.declared.ids.RowId.{RowId}
use Rattle.hk_arena.specs.Cells.{part, cells_of, entry_of, rest_of, entries_of, rows_in_set, from_of, up_of, row_of, row_at, table_of}
use Rattle.hk_arena.specs.Forms.{Form, nums_in, sets_in, row_nums, row_bits, row_words, nums_at, bits_at, words_at}
use Rattle.hk_arena.specs.Kept.{IsKept, IsSmall}
use Rattle.hk_arena.specs.inside.OneRow.{IsPlace, IsOneRow}
use Rattle.hk_arena.specs.Properties.{state_at}

-- ---- other rows

-- a part of a pool beyond the cells that may have changed
part_beyond : {X : Type 0} (span : Span) (from count : ℕ) (old new : List X) → IsChangedWithin span old new → (from + count ≤ span.first) ⊎ (span.first + span.count ≤ from) → part from count new ≡ part from count old
part_beyond span from count old new changed beyond =
    let new_length = length-take count (drop from new) in
    let old_length = length-take count (drop from old) in
    let new_rest = length-drop from new in
    let old_rest = length-drop from old in
    same_lists (part from count new) (part from count old) (omega (arith, changed.long)) (λ k d within.
    let below : k < count = omega arith in
    get_or-part from count new k d below
    ∙ changed.others (from + k) d (λ above under. elim beyond [ inl before ↦ omega arith | inr after ↦ omega arith ])
    ∙ sym (get_or-part from count old k d below))

-- cells with equal parts are equal
same_cells : (one other : Content) → one.nums ≡ other.nums → one.bits ≡ other.bits → one.words ≡ other.words → one ≡ other
same_cells one other nums bits words = ap₂ (λ n b. record { nums = n; bits = b; words = one.words }) nums bits ∙ ap (λ w. record { nums = other.nums; bits = other.bits; words = w }) words

-- a change of a row's cells is one of that row alone
pub IsOneRow-touched : (form : Form) (layer at : ℕ) (old new : Content) → IsPlace form layer at → IsTouched (row_spans form layer at) old new → IsOneRow form layer at old new
IsOneRow-touched form layer at old new is touched =
    let spans = row_spans form layer at in record {
      others = λ l r place apart. same_cells (cells_of form new l r) (cells_of form old l r)
          (part_beyond spans.nums (nums_at form l r) (row_nums form) old.nums new.nums touched.nums (row_place-apart (λ m. row_nums form) form.width l r layer at place.row_within is.row_within apart))
          (part_beyond spans.bits (bits_at form l r) (row_bits form) old.bits new.bits touched.bits (row_place-apart (λ m. row_bits form) form.width l r layer at place.row_within is.row_within apart))
          (part_beyond spans.words (words_at form l r) (row_words form l) old.words new.words touched.words (elim (row_place-apart (row_words form) form.width l r layer at place.row_within is.row_within apart) [
            | inl before ↦ inl (omega arith)
            | inr after ↦ inr (omega arith)
          ]));
      counts = λ l within. touched.words.others l 0 (λ above under. omega arith);
      nums = touched.nums.long;
      bits = touched.bits.long;
      words = touched.words.long;
    }

-- ---- the row's own cells

-- a cell of a row beyond those that may have changed
cell_stays : {X : Type 0} (span : Span) (from count : ℕ) (old new : List X) (k : ℕ) (d : X) → k < count → IsChangedWithin span old new → IsOutside span (from + k) → get_or (part from count new) k d ≡ get_or (part from count old) k d
cell_stays span from count old new k d below changed outside = get_or-part from count new k d below ∙ changed.others (from + k) d outside ∙ sym (get_or-part from count old k d below)

module _ (form : Form) (layer at : ℕ) where
  -- a state of a row is that of cells of the pools
  pub state_in_cells : (kinds : List Kind) (i p : ℕ) (content : Content) → i + nums_in kinds ≤ row_nums form → p + sets_in kinds ≤ row_bits form
      → state_at kinds i p (cells_of form content layer at).nums (cells_of form content layer at).bits ≡ state_at kinds (nums_at form layer at + i) (bits_at form layer at + p) content.nums content.bits
  state_in_cells kinds i p content nums_fit sets_fit =
      let cells = cells_of form content layer at in
      state_same kinds i p (nums_at form layer at + i) (bits_at form layer at + p) cells.nums content.nums cells.bits content.bits
      (record { same = λ k below. let place : nums_at form layer at + (i + k) ≡ nums_at form layer at + i + k = omega arith in get_or-part (nums_at form layer at) (row_nums form) content.nums (i + k) (pos 0) (omega arith) ∙ ap (λ n. get_or content.nums n (pos 0)) place })
      (record { same = λ k below. let place : bits_at form layer at + (p + k) ≡ bits_at form layer at + p + k = omega arith in get_or-part (bits_at form layer at) (row_bits form) content.bits (p + k) 0 (omega arith) ∙ ap (λ n. get_or content.bits n 0) place })

  module _ (spans : Spans) (old new : Content) (touched : IsTouched spans old new) where
    -- a state of a row whose cells lie beyond those that may have changed
    state_stays : (kinds : List Kind) (i p : ℕ) → i + nums_in kinds ≤ row_nums form → p + sets_in kinds ≤ row_bits form
        → ((k : ℕ) → i ≤ k → k < i + nums_in kinds → IsOutside spans.nums (nums_at form layer at + k)) → ((k : ℕ) → p ≤ k → k < p + sets_in kinds → IsOutside spans.bits (bits_at form layer at + k))
        → state_at kinds i p (cells_of form new layer at).nums (cells_of form new layer at).bits ≡ state_at kinds i p (cells_of form old layer at).nums (cells_of form old layer at).bits
    state_stays kinds i p nums_fit sets_fit nums_outside sets_outside =
        let one = cells_of form new layer at in
        let other = cells_of form old layer at in
        state_same kinds i p i p one.nums other.nums one.bits other.bits
        (record { same = λ k below. cell_stays spans.nums (nums_at form layer at) (row_nums form) old.nums new.nums (i + k) (pos 0) (omega arith) touched.nums (nums_outside (i + k) (omega arith) (omega arith)) })
        (record { same = λ k below. cell_stays spans.bits (bits_at form layer at) (row_bits form) old.bits new.bits (p + k) 0 (omega arith) touched.bits (sets_outside (p + k) (omega arith) (omega arith)) })

    down_stays : ((k : ℕ) → k < nums_in form.shape.down → IsOutside spans.nums (nums_at form layer at + k)) → ((k : ℕ) → 2 ≤ k → k < 2 + sets_in form.shape.down → IsOutside spans.bits (bits_at form layer at + k)) → (row_of form (cells_of form new layer at)).down ≡ (row_of form (cells_of form old layer at)).down
    down_stays nums_outside sets_outside = state_stays form.shape.down 0 2 (omega arith) (omega arith) (λ k above below. nums_outside k (omega arith)) sets_outside

    up_stays : IsOutside spans.words (words_at form layer at + 0) → ((k : ℕ) → nums_in form.shape.down ≤ k → k < row_nums form → IsOutside spans.nums (nums_at form layer at + k)) → ((k : ℕ) → 2 + sets_in form.shape.down ≤ k → k < row_bits form → IsOutside spans.bits (bits_at form layer at + k)) → up_of form (cells_of form new layer at) ≡ up_of form (cells_of form old layer at)
    up_stays word_outside nums_outside sets_outside = ap₂ (λ word (state : List Prop). if word == 0 then None else Some state)
        (cell_stays spans.words (words_at form layer at) (row_words form layer) old.words new.words 0 0 (omega arith) touched.words word_outside)
        (state_stays form.shape.up (nums_in form.shape.down) (2 + sets_in form.shape.down) (omega arith) (omega arith) (λ k above below. nums_outside k above (omega arith)) (λ k above below. sets_outside k above (omega arith)))

    from_stays : ((k : ℕ) → k < 2 → IsOutside spans.bits (bits_at form layer at + k)) → from_of (cells_of form new layer at).bits ≡ from_of (cells_of form old layer at).bits
    from_stays outside = ap₂ (λ high low. rows_in_set (high * 2 ^ 128 + low))
        (cell_stays spans.bits (bits_at form layer at) (row_bits form) old.bits new.bits 1 0 (omega arith) touched.bits (outside 1 (omega arith)))
        (cell_stays spans.bits (bits_at form layer at) (row_bits form) old.bits new.bits 0 0 (omega arith) touched.bits (outside 0 (omega arith)))

    entries_stay : ((k : ℕ) → 1 ≤ k → k < row_words form layer → IsOutside spans.words (words_at form layer at + k)) → entries_of (cells_of form new layer at).words ≡ entries_of (cells_of form old layer at).words
    entries_stay outside =
        let new_length = length-take (row_words form layer) (drop (words_at form layer at) new.words) in
        let old_length = length-take (row_words form layer) (drop (words_at form layer at) old.words) in
        let new_rest = length-drop (words_at form layer at) new.words in
        let old_rest = length-drop (words_at form layer at) old.words in
        ap (map entry_of) (same_rest (cells_of form new layer at).words (cells_of form old layer at).words (omega (arith, touched.words.long)) (λ k d above within.
        cell_stays spans.words (words_at form layer at) (row_words form layer) old.words new.words k d (omega arith) touched.words (outside k above (omega arith))))
      where
        same_rest : {X : Type 0} (one other : List X) → length one ≡ length other → ((k : ℕ) (d : X) → 1 ≤ k → k < length one → get_or one k d ≡ get_or other k d) → rest_of one ≡ rest_of other
        same_rest [] [] long same = refl
        same_rest [] (y ∷ ys) long same = absurd (omega arith)
        same_rest (x ∷ xs) [] long same = absurd (omega arith)
        same_rest (x ∷ xs) (y ∷ ys) long same = same_lists xs ys (omega arith) (λ k d within. same (suc k) d (omega arith) (omega arith))

  -- rows with equal parts are equal
  same_row : (one other : PlainRow) → one.down ≡ other.down → one.up ≡ other.up → one.from ≡ other.from → one.entries ≡ other.entries → one ≡ other
  same_row one other down up from entries = ap₂ (λ d u. record { down = d; up = u; from = one.from; entries = one.entries }) down up ∙ ap₂ (λ f e. record { down = other.down; up = other.up; from = f; entries = e }) from entries

  -- the cells of each part of a row, and of its up state with the word that says whether it has one
  abbrev pub down_spans : Spans
  down_spans = state_spans (nums_at form layer at) (nums_in form.shape.down) (bits_at form layer at + 2) (sets_in form.shape.down)

  abbrev pub up_state_spans : Spans
  up_state_spans = state_spans (nums_at form layer at + nums_in form.shape.down) (nums_in form.shape.up) (bits_at form layer at + (2 + sets_in form.shape.down)) (sets_in form.shape.up)

  abbrev pub up_spans : Spans
  up_spans = record up_state_spans { words = record { first = words_at form layer at; count = 1 } }

  abbrev pub from_spans : Spans
  from_spans = state_spans 0 0 (bits_at form layer at) 2

  abbrev pub entries_spans : Spans
  entries_spans = record (word_spans 0) { words = record { first = words_at form layer at + 1; count = length (values_of form.shape layer) } }

  -- they are cells of the row
  pub down_inside : AreInside down_spans (row_spans form layer at)
  down_inside =
      let row = row_spans form layer at in
      record { nums = inside_part down_spans.nums row.nums (omega arith) (omega arith); bits = inside_part down_spans.bits row.bits (omega arith) (omega arith); words = inside_none row.words }

  pub up_inside : AreInside up_spans (row_spans form layer at)
  up_inside =
      let row = row_spans form layer at in
      record { nums = inside_part up_spans.nums row.nums (omega arith) (omega arith); bits = inside_part up_spans.bits row.bits (omega arith) (omega arith); words = inside_part up_spans.words row.words (omega arith) (omega arith) }

  pub from_inside : AreInside from_spans (row_spans form layer at)
  from_inside =
      let row = row_spans form layer at in
      record { nums = inside_none row.nums; bits = inside_part from_spans.bits row.bits (omega arith) (omega arith); words = inside_none row.words }

  pub entries_inside : AreInside entries_spans (row_spans form layer at)
  entries_inside =
      let row = row_spans form layer at in
      record { nums = inside_none row.nums; bits = inside_none row.bits; words = inside_part entries_spans.words row.words (omega arith) (omega arith) }

  -- what a row is once one of its parts is written
  pub down_written : (old new : Content) (value : List Prop) → IsTouched down_spans old new → state_at form.shape.down (nums_at form layer at) (bits_at form layer at + 2) new.nums new.bits ≡ value → row_of form (cells_of form new layer at) ≡ with_down value (row_of form (cells_of form old layer at))
  down_written old new value touched held =
      let place : nums_at form layer at + 0 ≡ nums_at form layer at = omega arith in
      same_row (row_of form (cells_of form new layer at)) (with_down value (row_of form (cells_of form old layer at)))
      (state_in_cells form.shape.down 0 2 new (omega arith) (omega arith) ∙ ap (λ n. state_at form.shape.down n (bits_at form layer at + 2) new.nums new.bits) place ∙ held)
      (up_stays down_spans old new touched (λ above under. omega arith) (λ k above below over under. omega arith) (λ k above below over under. omega arith))
      (from_stays down_spans old new touched (λ k below over under. omega arith))
      (entries_stay down_spans old new touched (λ k above below over under. omega arith))

  -- an up state that is there where the first word isn't 0
  up_is : (content : Content) (word : ℕ) → get_or content.words (words_at form layer at) 0 ≡ word → up_of form (cells_of form content layer at) ≡ (if word == 0 then None else Some (state_at form.shape.up (nums_at form layer at + nums_in form.shape.down) (bits_at form layer at + (2 + sets_in form.shape.down)) content.nums content.bits))
  up_is content word first =
      let place : words_at form layer at + 0 ≡ words_at form layer at = omega arith in
      ap₂ (λ w (state : List Prop). if w == 0 then None else Some state)
      (get_or-part (words_at form layer at) (row_words form layer) content.words 0 0 (omega arith) ∙ ap (λ n. get_or content.words n 0) place ∙ first)
      (state_in_cells form.shape.up (nums_in form.shape.down) (2 + sets_in form.shape.down) content (omega arith) (omega arith))

  up_parts : (old new : Content) (up : Option (List Prop)) → IsTouched up_spans old new → up_of form (cells_of form new layer at) ≡ up → row_of form (cells_of form new layer at) ≡ with_up up (row_of form (cells_of form old layer at))
  up_parts old new up touched is = same_row (row_of form (cells_of form new layer at)) (with_up up (row_of form (cells_of form old layer at)))
      (down_stays up_spans old new touched (λ k below over under. omega arith) (λ k above below over under. omega arith))
      is
      (from_stays up_spans old new touched (λ k below over under. omega arith))
      (entries_stay up_spans old new touched (λ k above below over under. omega arith))

  pub up_written : (old new : Content) (value : List Prop) → IsTouched up_spans old new → get_or new.words (words_at form layer at) 0 ≡ 1 → state_at form.shape.up (nums_at form layer at + nums_in form.shape.down) (bits_at form layer at + (2 + sets_in form.shape.down)) new.nums new.bits ≡ value → row_of form (cells_of form new layer at) ≡ with_up (Some value) (row_of form (cells_of form old layer at))
  up_written old new value touched first held = up_parts old new (Some value) touched (up_is new 1 first ∙ ap Some held)

  pub up_erased : (old new : Content) → IsTouched up_spans old new → get_or new.words (words_at form layer at) 0 ≡ 0 → row_of form (cells_of form new layer at) ≡ with_up None (row_of form (cells_of form old layer at))
  up_erased old new touched first = up_parts old new None touched (up_is new 0 first)

  pub from_is : (content : Content) (low high : ℕ) → get_or content.bits (bits_at form layer at) 0 ≡ low → get_or content.bits (bits_at form layer at + 1) 0 ≡ high → from_of (cells_of form content layer at).bits ≡ rows_in_set (high * 2 ^ 128 + low)
  from_is content low high low_is high_is =
      let place : bits_at form layer at + 0 ≡ bits_at form layer at = omega arith in
      ap₂ (λ h l. rows_in_set (h * 2 ^ 128 + l))
      (get_or-part (bits_at form layer at) (row_bits form) content.bits 1 0 (omega arith) ∙ high_is)
      (get_or-part (bits_at form layer at) (row_bits form) content.bits 0 0 (omega arith) ∙ ap (λ n. get_or content.bits n 0) place ∙ low_is)

  pub from_written : (old new : Content) (rows : List ℕ) → IsTouched from_spans old new → from_of (cells_of form new layer at).bits ≡ rows → row_of form (cells_of form new layer at) ≡ with_from rows (row_of form (cells_of form old layer at))
  from_written old new rows touched is = same_row (row_of form (cells_of form new layer at)) (with_from rows (row_of form (cells_of form old layer at)))
      (down_stays from_spans old new touched (λ k below over under. omega arith) (λ k above below over under. omega arith))
      (up_stays from_spans old new touched (λ over under. omega arith) (λ k above below over under. omega arith) (λ k above below over under. omega arith))
      is
      (entries_stay from_spans old new touched (λ k above below over under. omega arith))

  pub entries_written : (old new : Content) (entries : List Entry) → IsTouched entries_spans old new → entries_of (cells_of form new layer at).words ≡ entries → row_of form (cells_of form new layer at) ≡ with_entries entries (row_of form (cells_of form old layer at))
  entries_written old new entries touched are = same_row (row_of form (cells_of form new layer at)) (with_entries entries (row_of form (cells_of form old layer at)))
      (down_stays entries_spans old new touched (λ k below over under. omega arith) (λ k above below over under. omega arith))
      (up_stays entries_spans old new touched (λ over under. omega arith) (λ k above below over under. omega arith) (λ k above below over under. omega arith))
      (from_stays entries_spans old new touched (λ k below over under. omega arith))
      are

-- ---- the table

-- a row's cells lie in the pools, if the form is small
pub row_room : (form : Form) (content : Content) (layer at : ℕ) (spans : Spans) → IsSmall form → IsKept form content → IsPlace form layer at
    → spans.nums.first + spans.nums.count ≤ nums_at form layer at + row_nums form → spans.bits.first + spans.bits.count ≤ bits_at form layer at + row_bits form → HasRoom spans content
row_room form content layer at spans small kept place nums_end bits_end =
    let nums = nums_within form layer at place in
    let bits = bits_within form layer at place in
    record { nums = omega (arith, kept.nums); bits = omega (arith, kept.bits); few_nums = omega (arith, kept.nums, small.nums); few_bits = omega (arith, kept.bits, small.bits) }

-- a write of a row's cells changes its row of the table alone
pub row_written : (form : Form) (row : RowId) (spans : Spans) (most : ℕ) (old new : Levels) → IsKept form old.content → IsRow (table_of form old.content) row → AreInside spans (row_spans form row.layer row.at) → IsWritten spans most old new → IsRowWritten form row most old new
unfolding row_at
row_written form row spans most old new kept is inside written =
    let at = there form old.content row kept is in
    let touched = IsTouched-wider spans (row_spans form row.layer row.at) old.content new.content inside written.touched in
    let one = IsOneRow-touched form row.layer row.at old.content new.content at.place touched in
    let still = IsKept-one_row form row.layer row.at old.content new.content kept one at.within (touched.limits kept.limits) (touched.sets kept.sets) in
    record {
      kept = still;
      changed = record {
        now = row_of form (cells_of form new.content row.layer row.at);
        fits = row_fits form new.content row.layer row.at still at.place;
        table = table_of-one_row form row.layer row.at (λ _. row_of form (cells_of form new.content row.layer row.at)) old.content new.content kept one (λ _. refl);
      };
      stack = written.stack;
      raised = written.raised;
    }

-- what the row then is says what the table is
pub row_becomes : (form : Form) (row : RowId) (spans : Spans) (change : PlainRow → PlainRow) (old new : Content) → IsKept form old → IsRow (table_of form old) row → AreInside spans (row_spans form row.layer row.at) → IsTouched spans old new
    → row_of form (cells_of form new row.layer row.at) ≡ change (row_of form (cells_of form old row.layer row.at)) → table_of form new ≡ with_row row change (table_of form old)
row_becomes form row spans change old new kept is inside touched becomes =
    let at = there form old row kept is in
    let one = IsOneRow-touched form row.layer row.at old new at.place (IsTouched-wider spans (row_spans form row.layer row.at) old new inside touched) in
    table_of-one_row form row.layer row.at change old new kept one (λ _. becomes)

-- ---- what is read of a row

pub row_down : (form : Form) (content : Content) (row : RowId) → IsKept form content → IsRow (table_of form content) row → (row_in (table_of form content) row).down ≡ state_at form.shape.down (nums_at form row.layer row.at) (bits_at form row.layer row.at + 2) content.nums content.bits
unfolding row_at
row_down form content row kept is =
    let place : nums_at form row.layer row.at + 0 ≡ nums_at form row.layer row.at = omega arith in
    ap (λ (r : PlainRow). r.down) (row_in-table_of form content row (there form content row kept is))
    ∙ state_in_cells form row.layer row.at form.shape.down 0 2 content (omega arith) (omega arith)
    ∙ ap (λ n. state_at form.shape.down n (bits_at form row.layer row.at + 2) content.nums content.bits) place

pub row_up : (form : Form) (content : Content) (row : RowId) (word : ℕ) → IsKept form content → IsRow (table_of form content) row → get_or content.words (words_at form row.layer row.at) 0 ≡ word
    → (row_in (table_of form content) row).up ≡ (if word == 0 then None else Some (state_at form.shape.up (nums_at form row.layer row.at + nums_in form.shape.down) (bits_at form row.layer row.at + (2 + sets_in form.shape.down)) content.nums content.bits))
unfolding row_at
row_up form content row word kept is first = ap (λ (r : PlainRow). r.up) (row_in-table_of form content row (there form content row kept is)) ∙ up_is form row.layer row.at content word first

pub row_from : (form : Form) (content : Content) (row : RowId) (low high : ℕ) → IsKept form content → IsRow (table_of form content) row → get_or content.bits (bits_at form row.layer row.at) 0 ≡ low → get_or content.bits (bits_at form row.layer row.at + 1) 0 ≡ high → (row_in (table_of form content) row).from ≡ rows_in_set (high * 2 ^ 128 + low)
unfolding row_at
row_from form content row low high kept is low_is high_is = ap (λ (r : PlainRow). r.from) (row_in-table_of form content row (there form content row kept is)) ∙ from_is form row.layer row.at content low high low_is high_is

-- ---- writes one after the other

pub up_word : (form : Form) (layer at most : ℕ) (old new : Levels) → 1 ≤ most → IsWritten (word_spans (words_at form layer at)) 1 old new → IsWritten (up_spans form layer at) most old new
up_word form layer at most old new some written =
    let up = up_spans form layer at in
    IsWritten-wider (word_spans (words_at form layer at)) up 1 most old new (record { nums = inside_none up.nums; bits = inside_none up.bits; words = inside_itself up.words }) some written

pub up_both : (form : Form) (layer at most : ℕ) (old middle new : Levels) → IsWritten (word_spans (words_at form layer at)) 1 old middle → IsWritten (up_state_spans form layer at) most middle new → IsWritten (up_spans form layer at) (1 + most) old new
up_both form layer at most old middle new first second =
    let up = up_spans form layer at in
    let state = up_state_spans form layer at in
    IsWritten-part state up 1 most (1 + most) old middle new (record { nums = inside_itself up.nums; bits = inside_itself up.bits; words = inside_none up.words }) (omega arith)
    (up_word form layer at 1 old middle (omega arith) first) second
