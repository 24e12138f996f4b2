-- The bounds and the rows of a constraint are valid.
use Rattle.std.proofs.Common.{◌≡◌, ◌≢◌, ℕ, ◌<◌, ◌≤◌, ◌^◌, List, [], ◌∷◌, length, get_or, map, refl, sym, ap, ◌∙◌, arith}
use Rattle.std.specs.Prelude.{pos, All, AllPairs}
use Rattle.std.specs.Fmt.{decimal}
use Rattle.std.specs.Str.Parse.{AllDigits}
use Rattle.std.proofs.lemmas.Fmt.{decimal-digits_value}
use Rattle.std.proofs.lemmas.Int.{ints}
use Rattle.std.proofs.lemmas.List.Elements.{All-nil, All-cons, All-head, All-tail, All-map, All-weaker}
use Rattle.std.proofs.lemmas.List.Kept.{AllPairs-cons}
use Rattle.std.proofs.lemmas.Str.Parse.{numerals_by_value, tells_digits}
use Rattle.hk_group.specs.Problems.{IsWithin, AreBounds, IsRow}
use Rattle.hk_base.specs.Limits.{number_limit}
use Rattle.hk_text.specs.Numbers.{IsNumber}
use Rattle.hk_lines.specs.Phrases.{Row, AreRows, last_row, more_rows}
use Rattle.hk_draft.specs.Declares.{IsSmallRow, row_digits, AreOnce, made_row}
use Rattle.hk_draft.specs.Limits.{most_times}
use Rattle.hk_draft.proofs.CountDecisions.{pairs_head, pairs_tail}

-- numbers of variables within their limit are bounds
within_limit : (n : ℕ) → n ≤ most_times → IsWithin number_limit (pos n)
within_limit n small = record { above = omega (arith, ints, small); below = omega (arith, ints, small) }

pub bounds_within : {least most : ℕ} → least ≤ most_times → most ≤ most_times → AreBounds (pos least) (pos most)
bounds_within {least = least} {most = most} low high = record { least_within = within_limit least low; most_within = within_limit most high }

-- rows within the limits are those of a constraint
pub rows_valid : (rows : List Row) → All IsSmallRow rows → All IsRow (map made_row rows)
rows_valid rows small = All-map IsRow made_row rows (All-weaker IsSmallRow (λ row. IsRow (made_row row)) (λ row is. record { small = is.small; bounds = bounds_within is.least_fits is.most_fits }) rows small)

-- a number has one text
text_is : {text : List ℕ} {n : ℕ} → IsNumber text n → n < 2 ^ 64 → decimal n ≡ text
text_is {text = text} {n = n} number fits =
    ap decimal (sym number.value) ∙ decimal-digits_value (numerals_by_value (AllDigits 10) tells_digits) text number.digits (some text number) (one text number) (omega (arith, number.value, fits))
  where
    some : (text : List ℕ) → IsNumber text n → 0 < length text
    some [] number = absurd number.plain
    some (byte ∷ more) number = omega arith

    one : (text : List ℕ) → IsNumber text n → get_or text 0 0 ≡ 48 → length text ≡ 1
    one [] number zero_first = absurd number.plain
    one (byte ∷ []) number zero_first = refl
    one (first ∷ second ∷ more) number zero_first = absurd (number.plain zero_first)

one_text : {a b : List ℕ} {m n : ℕ} → IsNumber a m → IsNumber b n → m < 128 → m ≡ n → a ≡ b
one_text x y small same = sym (text_is x (omega (arith, small))) ∙ ap decimal same ∙ text_is y (omega (arith, small, same))

-- the digits of each row write its value
abbrev IsWritten : Row → Type 0
IsWritten row = IsNumber row.digits row.value

rows_written : {texts : List (List ℕ)} {rows : List Row} → AreRows texts rows → All IsWritten rows
rows_written (last_row {row = row} x) = All-cons IsWritten row [] x.value_is (All-nil IsWritten)
rows_written (more_rows {row = row} {rows = rows} x later) = All-cons IsWritten row rows x.value_is (rows_written later)

-- so rows of other digits are of other values
others : (row : Row) (rows : List Row) → IsWritten row → row.value < 128 → All IsWritten rows → All (λ digits. row.digits ≢ digits) (row_digits rows) → All (λ other. row.value ≢ other.0) (map made_row rows)
others row [] written small all apart = All-nil _
others row (next ∷ rows) written small all apart = All-cons (λ other. row.value ≢ other.0) (made_row next) (map made_row rows)
    (λ same. All-head (λ digits. row.digits ≢ digits) next.digits (row_digits rows) apart (one_text written (All-head IsWritten next rows all) small same))
    (others row rows written small (All-tail IsWritten next rows all) (All-tail (λ digits. row.digits ≢ digits) next.digits (row_digits rows) apart))

values_once : (rows : List Row) → All IsWritten rows → All IsSmallRow rows → AreOnce rows → AllPairs (λ row other. row.0 ≢ other.0) (map made_row rows)
values_once [] written small once = λ i j d less within. absurd (omega (arith, within))
values_once (row ∷ rows) written small once =
    let is = All-head IsSmallRow row rows small in
    let apart = pairs_head (λ digits other. digits ≢ other) row.digits (row_digits rows) once in
    let later = pairs_tail (λ digits other. digits ≢ other) row.digits (row_digits rows) once in
    AllPairs-cons (λ row other. row.0 ≢ other.0) (made_row row) (map made_row rows)
    (others row rows (All-head IsWritten row rows written) is.small (All-tail IsWritten row rows written) apart)
    (values_once rows (All-tail IsWritten row rows written) (All-tail IsSmallRow row rows small) later)

-- rows that a line says, none of a value that is listed twice, are of other values
pub rows_once : {texts : List (List ℕ)} {rows : List Row} → AreRows texts rows → All IsSmallRow rows → AreOnce rows → AllPairs (λ row other. row.0 ≢ other.0) (map made_row rows)
rows_once {rows = rows} says small once = values_once rows (rows_written says) small once
