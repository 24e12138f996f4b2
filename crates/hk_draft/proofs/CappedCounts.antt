-- What among, sequence and gcc count is the same when it is capped, where it is within the limits.
use Rattle.std.proofs.Common.{◌≡◌, ◌≢◌, ℕ, List, [], ◌∷◌, map, refl, sym, ap, subst, arith}
use Rattle.std.specs.Prelude.{All, AllPairs}
use Rattle.hk_lines.specs.Phrases.{Row, Counting}
use Rattle.hk_lines.specs.Shapes.{capped, capped_counting, capped_row}
use Rattle.hk_draft.specs.Declares.{IsSmallCounting, IsWindow, IsSmallRow, row_digits, AreOnce}
use Rattle.hk_draft.proofs.CappedNumbers.{same_small, kept_small, same_set, kept_set, map_same, map_kept}

-- a counting whose cap is within the limits, or which is within them itself, is the same when it is capped
pub same_counting : (counting : Counting) → IsSmallCounting (capped_counting counting) → capped_counting counting ≡ counting
same_counting counting small =
    let set = same_set counting.set small.ordered small.within in
    let least = same_small counting.least 1000000000000 small.least_fits (omega arith) in
    let most = same_small counting.most 1000000000000 small.most_fits (omega arith) in
    λ i. record { names = counting.names; set = set i; least = least i; most = most i }

pub kept_counting : (counting : Counting) → IsSmallCounting counting → capped_counting counting ≡ counting
kept_counting counting small =
    let set = kept_set counting.set small.ordered small.within in
    let least = kept_small counting.least 1000000000000 small.least_fits (omega arith) in
    let most = kept_small counting.most 1000000000000 small.most_fits (omega arith) in
    λ i. record { names = counting.names; set = set i; least = least i; most = most i }

-- so is a window
pub same_window : (window : ℕ) → IsWindow (capped window) → capped window ≡ window
same_window window is = same_small window 32 is.short (omega arith)

pub kept_window : (window : ℕ) → IsWindow window → capped window ≡ window
kept_window window is = kept_small window 32 is.short (omega arith)

-- and a row
same_row : (row : Row) → IsSmallRow (capped_row row) → capped_row row ≡ row
same_row row is =
    let low = is.small in
    let value = same_small row.value 127 (omega (arith, low)) (omega arith) in
    let least = same_small row.least 1000000000000 is.least_fits (omega arith) in
    let most = same_small row.most 1000000000000 is.most_fits (omega arith) in
    λ i. record { value = value i; digits = row.digits; least = least i; most = most i }

kept_row : (row : Row) → IsSmallRow row → capped_row row ≡ row
kept_row row is =
    let low = is.small in
    let value = kept_small row.value 127 (omega (arith, low)) (omega arith) in
    let least = kept_small row.least 1000000000000 is.least_fits (omega arith) in
    let most = kept_small row.most 1000000000000 is.most_fits (omega arith) in
    λ i. record { value = value i; digits = row.digits; least = least i; most = most i }

-- and rows
pub same_rows : (rows : List Row) → All IsSmallRow (map capped_row rows) → map capped_row rows ≡ rows
same_rows = map_same IsSmallRow capped_row same_row

pub kept_rows : (rows : List Row) → All IsSmallRow rows → map capped_row rows ≡ rows
kept_rows = map_kept IsSmallRow capped_row kept_row

-- capping changes no digits, so rows list a value twice when they are capped where they do so
same_digits : (rows : List Row) → row_digits (map capped_row rows) ≡ row_digits rows
same_digits [] = refl
same_digits (row ∷ rows) = ap (λ texts. row.digits ∷ texts) (same_digits rows)

pub once_capped : (rows : List Row) → AreOnce rows → AreOnce (map capped_row rows)
once_capped rows once = subst (AllPairs (λ digits other. digits ≢ other)) (sym (same_digits rows)) once

pub once_whole : (rows : List Row) → AreOnce (map capped_row rows) → AreOnce rows
once_whole rows once = subst (AllPairs (λ digits other. digits ≢ other)) (same_digits rows) once
