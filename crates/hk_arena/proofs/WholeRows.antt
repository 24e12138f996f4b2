-- Rows that are written part by part.
use Rattle.std.proofs.Common.{◌≡◌, ℕ, ◌+◌, ◌<◌, ◌≤◌, List, Option, length, map, get_or, refl, sym, ◌∙◌, ap, subst, inl, inr, arith}
use Rattle.std.proofs.lemmas.Bool.{cases_eq}
use Rattle.std.proofs.lemmas.List.{ext_get_or}
use Rattle.hk_kinds.specs.declared.properties.Prop.{Prop}
use Rattle.hk_table.specs.Tables.{PlainRow}
use Rattle.hk_table.specs.declared.entries.Entry.{Entry}
use Rattle.hk_table.specs.declared.entries.Entry.TheVariants.{Gone}
use Rattle.hk_text.specs.Sets.{members_below}
use Rattle.hk_trail.specs.Levels.{Levels}
use Rattle.hk_trail.specs.Places.{cell_count}
use Rattle.hk_trail.specs.Pools.{Content}
use Rattle.hk_arena.proofs.Entering.{entry_at}
use Rattle.hk_arena.proofs.Fitting.{row_fits}
use Rattle.hk_arena.proofs.Numbering.{IsRaised-more, IsRaised-within}
use Rattle.hk_arena.proofs.RowChanges.{IsRow-with_row, with_row-twice}
use Rattle.hk_arena.proofs.Writing.{IsWritten-part, inside_none, inside_part}
use Rattle.hk_arena.proofs.RowWrites.{entries_spans}
use Rattle.hk_arena.specs.Changes.{with_row, with_down, with_up, with_from, row_made}
use Rattle.hk_arena.specs.inside.Writes.{with_entries, IsChangedWithin, IsRowWritten, IsWritten, word_spans}
use Rattle.hk_arena.specs.Diagrams.{IsRow, values_of}
use Rattle.hk_arena.specs.declared.ids.RowId.{RowId}
use Rattle.hk_arena.specs.Cells.{cells_of, entries_of, entry_of, row_at, rows_in_set, table_of}
use Rattle.hk_arena.specs.Forms.{Form, words_at}
use Rattle.hk_arena.specs.Kept.{IsKept}
use Rattle.hk_arena.specs.inside.OneRow.{IsPlace}

-- ---- entries, one after the other

-- so many words from a place on hold the first of these entries
abbrev pub HoldEntries : ℕ → List Entry → ℕ → List ℕ → Type 0
HoldEntries first entries count words = (k : ℕ) → k < count → entry_of (get_or words (first + k) 0) ≡ get_or entries k Gone

-- one word more holds the next entry
pub HoldEntries-more : (first at word : ℕ) (entries : List Entry) (old new : List ℕ) → IsChangedWithin (record { first = first + at; count = 1 }) old new → get_or new (first + at) 0 ≡ word → entry_of word ≡ get_or entries at Gone → HoldEntries first entries at old → HoldEntries first entries (at + 1) new
HoldEntries-more first at word entries old new changed held is done = λ k below. elim (cases_eq k at) [
  | inl same ↦ ap (λ n. entry_of (get_or new (first + n) 0)) same ∙ ap entry_of held ∙ is ∙ ap (λ n. get_or entries n Gone) (sym same)
  | inr apart ↦ ap entry_of (changed.others (first + k) 0 (λ above under. omega arith)) ∙ done k (omega arith)
]

-- a row whose words hold these entries has them
pub entries_held : (form : Form) (content : Content) (layer at : ℕ) (entries : List Entry) → IsKept form content → IsPlace form layer at → length entries ≡ length (values_of form.shape layer) → HoldEntries (words_at form layer at + 1) entries (length entries) content.words → entries_of (cells_of form content layer at).words ≡ entries
unfolding row_at
entries_held form content layer at entries kept place long held =
    let fits = row_fits form content layer at kept place in
    ext_get_or Gone (entries_of (cells_of form content layer at).words) entries (fits.long ∙ sym long)
    (λ k below.
    let within : k < length (values_of form.shape layer) = omega (arith, fits.long) in
    let same : words_at form layer at + (1 + k) ≡ words_at form layer at + 1 + k = omega arith in
    entry_at form content layer at k within ∙ ap (λ n. entry_of (get_or content.words n 0)) same ∙ held k (omega (arith, fits.long)))

-- a write of one entry's word after those of others
pub entries_more : (form : Form) (layer at k before most : ℕ) (old middle new : Levels) → k < length (values_of form.shape layer) → before + 1 ≤ most → IsWritten (entries_spans form layer at) before old middle → IsWritten (word_spans (words_at form layer at + 1 + k)) 1 middle new → IsWritten (entries_spans form layer at) most old new
entries_more form layer at k before most old middle new below within first second =
    let spans = entries_spans form layer at in
    let small = word_spans (words_at form layer at + 1 + k) in
    IsWritten-part small spans before 1 most old middle new (record { nums = inside_none spans.nums; bits = inside_none spans.bits; words = inside_part small.words spans.words (omega arith) (omega arith) }) within first second

-- ---- parts, one after the other

-- a row that is there stays there
pub IsRow-written : (form : Form) (row : RowId) (most : ℕ) (old new : Levels) → IsRow (table_of form old.content) row → IsRowWritten form row most old new → IsRow (table_of form new.content) row
IsRow-written form row most old new is written =
    subst (λ table. IsRow table row) (sym written.changed.table) (IsRow-with_row row (table_of form old.content) (λ any. written.changed.now) is)

pub IsRowWritten-then : (form : Form) (row : RowId) (one other most : ℕ) (old middle new : Levels) → one + other ≤ most → IsRowWritten form row one old middle → IsRowWritten form row other middle new → IsRowWritten form row most old new
IsRowWritten-then form row one other most old middle new within first second =
    let numbers : Levels → List ℕ = λ levels. map cell_count levels.written in
    record {
      kept = second.kept;
      changed = record {
        now = second.changed.now;
        fits = second.changed.fits;
        table = second.changed.table ∙ ap (with_row row (λ any. second.changed.now)) first.changed.table ∙ with_row-twice row (table_of form old.content) (λ any. first.changed.now) (λ any. second.changed.now);
      };
      stack = second.stack ∙ first.stack;
      raised = IsRaised-within (one + other) most (numbers old) (numbers new) within (IsRaised-more one other (numbers old) (numbers middle) (numbers new) first.raised second.raised);
    }

pub IsRowWritten-within : (form : Form) (row : RowId) (few most : ℕ) (old new : Levels) → few ≤ most → IsRowWritten form row few old new → IsRowWritten form row most old new
IsRowWritten-within form row few most old new within written = record {
  kept = written.kept;
  changed = written.changed;
  stack = written.stack;
  raised = IsRaised-within few most (map cell_count old.written) (map cell_count new.written) within written.raised;
}

pub three_parts : (form : Form) (row : RowId) (a b c most : ℕ) (s0 s1 s2 s3 : Levels) → a + b + c ≤ most → IsRowWritten form row a s0 s1 → IsRowWritten form row b s1 s2 → IsRowWritten form row c s2 s3 → IsRowWritten form row most s0 s3
three_parts form row a b c most s0 s1 s2 s3 within first second third = IsRowWritten-then form row (a + b) c most s0 s2 s3 within (IsRowWritten-then form row a b (a + b) s0 s1 s2 (omega arith) first second) third

pub four_parts : (form : Form) (row : RowId) (a b c d most : ℕ) (s0 s1 s2 s3 s4 : Levels) → a + b + c + d ≤ most → IsRowWritten form row a s0 s1 → IsRowWritten form row b s1 s2 → IsRowWritten form row c s2 s3 → IsRowWritten form row d s3 s4 → IsRowWritten form row most s0 s4
four_parts form row a b c d most s0 s1 s2 s3 s4 within first second third fourth =
    IsRowWritten-then form row (a + b + c) d most s0 s3 s4 within (three_parts form row a b c (a + b + c) s0 s1 s2 s3 (omega arith) first second third) fourth

-- a row whose four parts are written is made of them
pub all_written : (row : RowId) (down : List Prop) (up : Option (List Prop)) (from : List ℕ) (entries : List Entry) (t0 t1 t2 t3 t4 : List (List PlainRow)) → t1 ≡ with_row row (with_down down) t0 → t2 ≡ with_row row (with_up up) t1 → t3 ≡ with_row row (with_from from) t2 → t4 ≡ with_row row (with_entries entries) t3
    → t4 ≡ with_row row (λ any. row_made down up from entries) t0
all_written row down up from entries t0 t1 t2 t3 t4 first second third fourth =
    fourth
    ∙ ap (with_row row (with_entries entries)) (third ∙ ap (with_row row (with_from from)) (second ∙ ap (with_row row (with_up up)) first ∙ with_row-twice row t0 (with_down down) (with_up up)) ∙ with_row-twice row t0 (λ r. with_up up (with_down down r)) (with_from from))
    ∙ with_row-twice row t0 (λ r. with_from from (with_up up (with_down down r))) (with_entries entries)

-- the rows of a set are its members below 256
pub rows_of_set : (set : ℕ) → rows_in_set set ≡ members_below set 256
unfolding rows_in_set
rows_of_set set = refl
