-- What the tests of an among, a sequence and a gcc find in what was read.
use Rattle.std.proofs.Common.{◌≡◌, ◌==◌, Bor, ℕ, false, true≢false, arith, ◌+◌, ◌<◌, ◌≤◌, List, [], ◌∷◌, ◌++◌, length, get_or, map, take, sym, ap, subst, ◌∙◌}
use Rattle.std.specs.Prelude.{All}
use Rattle.std.proofs.lemmas.List.{get_or-map, length-map, map-append, take_more}
use Rattle.std.proofs.lemmas.List.Elements.{All-nil, All-cons, All-head, All-tail}
use Rattle.std.proofs.lemmas.Simd.{map-map}
use Rattle.hk_group.specs.Limits.{value_count, most_constraints}
use Rattle.hk_draft.specs.Drafts.{PlainDraft, HasGroup}
use Rattle.hk_lines.specs.declared.counts.Counting.{Counting as ReadCounting}
use Rattle.hk_lines.specs.declared.counts.Row.{Row as ReadRow}
use Rattle.hk_lines.specs.Plain.{plain_counting, plain_row, rows_of}
use Rattle.hk_draft.specs.Declares.{IsSmallRow, row_digits, made_row}
use Rattle.hk_draft.specs.Limits.{most_times}
use Rattle.hk_draft.specs.inside.Fits.{FitsCounting}
use Rattle.hk_draft.proofs.SmallSets.{AreSmallValues, small_items, items_small}

-- what was read of a counting fits where its parts do
pub counting_fits : (counting : ReadCounting) (before : PlainDraft) → length before.constraints < most_constraints → HasGroup before → AreSmallValues counting.set → counting.least ≤ most_times → counting.most ≤ most_times → FitsCounting (plain_counting counting) before
counting_fits counting before room group set least most =
    let items = small_items counting.set set in
    record { room = room; group = group; small = record { ordered = items.0; within = items.1; least_fits = least; most_fits = most } }

-- its set then has small values
pub set_fits : (counting : ReadCounting) (before : PlainDraft) → FitsCounting (plain_counting counting) before → AreSmallValues counting.set
set_fits counting before fits = items_small counting.set fits.small.ordered fits.small.within

-- any row
abbrev pub any_row : ReadRow
any_row = record { value = 0; digits = record { ref_ptr = (0, 0); now = [] }; least = 0; most = 0 }

-- a row that was read is within the limits
abbrev pub IsSmallRead : ReadRow → Type 0
IsSmallRead row = (row.value < value_count) × (row.least ≤ most_times) × (row.most ≤ most_times)

-- rows that were read and aren't none are some
pub rows_some : (rows : List ReadRow) → (length rows == 0) ≡ false → 0 < length (rows_of rows)
rows_some [] none = absurd (true≢false none)
rows_some (row ∷ rows) some = omega arith

pub rows_small : (rows : List ReadRow) → All IsSmallRead rows → All IsSmallRow (rows_of rows)
rows_small [] small = All-nil IsSmallRow
rows_small (row ∷ rows) small =
    let first = All-head IsSmallRead row rows small in
    All-cons IsSmallRow (plain_row row) (rows_of rows) (record { small = first.0; least_fits = first.1; most_fits = first.2 }) (rows_small rows (All-tail IsSmallRead row rows small))

pub small_rows : (rows : List ReadRow) → All IsSmallRow (rows_of rows) → All IsSmallRead rows
small_rows [] small = All-nil IsSmallRead
small_rows (row ∷ rows) small =
    let first = All-head IsSmallRow (plain_row row) (rows_of rows) small in
    All-cons IsSmallRead row rows (first.small, first.least_fits, first.most_fits) (small_rows rows (All-tail IsSmallRow (plain_row row) (rows_of rows) small))

-- the row at a place is within the limits where all are
pub small_at : (rows : List ReadRow) (i : ℕ) (d : ReadRow) → i < length rows → All IsSmallRow (rows_of rows) → IsSmallRow (plain_row (get_or rows i d))
small_at rows i d within all = subst IsSmallRow (get_or-map plain_row rows i d (plain_row d) within) (all i (plain_row d) (simp length-map within))

-- one row more is made
pub made_more : (rows : List ReadRow) (i : ℕ) (d : ReadRow) → i < length rows → map made_row (rows_of (take (i + 1) rows)) ≡ map made_row (rows_of (take i rows)) ++ made_row (plain_row (get_or rows i d)) ∷ []
made_more rows i d within =
    ap (λ xs. map made_row (rows_of xs)) (take_more rows i d within)
    ∙ ap (map made_row) (map-append plain_row (take i rows) (get_or rows i d ∷ []))
    ∙ map-append made_row (rows_of (take i rows)) (plain_row (get_or rows i d) ∷ [])

-- the digits of rows, as they were read
pub digits_read : (rows : List ReadRow) (texts : List (Bor (List ℕ))) → texts ≡ map (λ row. row.digits) rows → map (λ text. text.now) texts ≡ row_digits (rows_of rows)
digits_read rows texts are = ap (map (λ (text : Bor (List ℕ)). text.now)) are ∙ map-map _ _ rows ∙ sym (map-map _ _ rows)
