-- Decimal digits, as they are read and written one by one.
use Rattle.std.proofs.Common.{◌≡◌, ℕ, ◌+◌, ◌-◌, ◌*◌, ◌/◌, ◌%◌, ◌^◌, ◌<◌, ◌≤◌, true, false, List, [], ◌∷◌, ◌++◌, length, min, get_or, set, take, drop, sym, ap, ◌∙◌, append_assoc, arith, lit<}
use Rattle.std.specs.Char.{is_ascii_digit}
use Rattle.std.specs.Fmt.{decimal}
use Rattle.std.specs.Int.{IsInRange}
use Rattle.std.specs.Str.Parse.{AllDigits, digits_value}
use Rattle.std.proofs.lemmas.Bool.Decides.{nat_tests}
use Rattle.std.proofs.lemmas.Fmt.{decimal_digit, decimal_step, decimal_nonempty, length-decimal-le}
use Rattle.std.proofs.lemmas.Int.Digits.{digits_more, digits_value_more}
use Rattle.std.proofs.lemmas.List.{length-append, length-drop, drop-set}
use Rattle.std.proofs.lemmas.Str.{digit_value_digit}
use Rattle.std.proofs.lemmas.Str.Parse.{digit_at}
use Rattle.std.proofs.Math.Nat.{min-le_left, min-le_right, min-eq_left, min-eq_right}
use Rattle.hk_text.specs.Numbers.{IsNumber}

digit_in_range : (b : ℕ) → is_ascii_digit b ≡ true → IsInRange 48 57 b
digit_in_range b digit = grind (arith, nat_tests)

-- one digit more is ten times the number and the digit
pub digits_value_next : (text : List ℕ) (i value : ℕ) → i < length text → is_ascii_digit (get_or text i 0) ≡ true → digits_value 10 (take i text) ≡ value → digits_value 10 (take (i + 1) text) ≡ value * 10 + (get_or text i 0 - 48)
digits_value_next text i value inside digit is =
    let range = digit_in_range (get_or text i 0) digit in
    omega (arith, digits_value_more 10 text i inside, is, digit_value_digit (get_or text i 0) range)

-- one digit more are digits
pub digits_next : (text : List ℕ) (i : ℕ) → i < length text → is_ascii_digit (get_or text i 0) ≡ true → AllDigits 10 (take i text) → AllDigits 10 (take (i + 1) text)
digits_next text i inside digit all =
    let range = digit_in_range (get_or text i 0) digit in
    digits_more 10 text i inside all (omega (arith, digit_value_digit (get_or text i 0) range))

-- a text with another byte than digits writes no number
pub no_number : (text : List ℕ) (i n : ℕ) → i < length text → is_ascii_digit (get_or text i 0) ≡ false → IsNumber text n → ⊥
no_number text i n inside other number = let range = digit_at text i number.digits inside in grind (arith, nat_tests)

-- a number that is capped, and one digit more: it is capped once again
pub capped_next : (whole value most digit : ℕ) → most < 2 ^ 64 → value ≡ min whole most → min (min (min (value * 10) (2 ^ 64 - 1) + digit) (2 ^ 64 - 1)) most ≡ min (whole * 10 + digit) most
capped_next whole value most digit fits is = grind (arith, min-le_left, min-le_right, min-eq_left, min-eq_right)

-- a text writes at most one number
pub IsNumber-one : (text : List ℕ) (m n : ℕ) → IsNumber text m → IsNumber text n → m ≡ n
IsNumber-one text m n one other = sym one.value ∙ other.value

-- while digits are written into a text of 21 bytes, there is room for one more
pub room : (n left start : ℕ) (text : List ℕ) → n < 2 ^ 64 → left ≤ n → length text ≡ 21 → start < length text → decimal n ≡ decimal left ++ drop (start + 1) text → 0 < start
room n left start text fits below size inside written =
    let small : 2 ^ 64 < 10 ^ 20 = lit< tt in
    let short : length (decimal n) ≤ 20 = length-decimal-le 20 n (omega arith) (omega arith) (omega arith) in
    let some : 0 < length (decimal left) = decimal_nonempty left (omega arith) in
    omega (arith, ap length written, length-append (decimal left) (drop (start + 1) text), length-drop (start + 1) text)

-- the last digit of what is left goes before those written
pub written_next : (n left start : ℕ) (text : List ℕ) → 10 ≤ left → left < 2 ^ 64 → 0 < start → start < length text → decimal n ≡ decimal left ++ drop (start + 1) text → decimal n ≡ decimal (left / 10) ++ drop (start - 1 + 1) (set text start (48 + left % 10))
written_next n left start text more fits room inside written =
    let back : start ≡ start - 1 + 1 = omega arith in
    written
    ∙ ap (λ xs. xs ++ drop (start + 1) text) (decimal_step left more fits)
    ∙ append_assoc (decimal (left / 10)) ((48 + left % 10) ∷ []) (drop (start + 1) text)
    ∙ ap (λ xs. decimal (left / 10) ++ xs) (sym (drop-set text start (48 + left % 10) inside))
    ∙ ap (λ k. decimal (left / 10) ++ drop k (set text start (48 + left % 10))) back

-- the first digit ends it
pub written_all : (n left start : ℕ) (text : List ℕ) → left < 10 → start < length text → decimal n ≡ decimal left ++ drop (start + 1) text → drop start (set text start (48 + left)) ≡ decimal n
written_all n left start text last inside written =
    drop-set text start (48 + left) inside ∙ ap (λ xs. xs ++ drop (start + 1) text) (sym (decimal_digit left last)) ∙ sym written
