-- Numbers in decimal are digits.
use Rattle.std.proofs.Common.{◌≡◌, ℕ, zero, suc, ◌<◌, ◌/◌, ◌%◌, ◌==◌, Bool, true, false, cond, List, [], ◌∷◌, refl, arith}
use Rattle.std.specs.Char.{is_ascii_digit}
use Rattle.std.specs.Fmt.{decimal, digits, digits_onto, digit_glyph}
use Rattle.std.specs.List.{list_all}
use Rattle.std.proofs.lemmas.Bool.{and_from}
use Rattle.std.proofs.lemmas.Bool.Decides.{nat_tests}
use Rattle.hk_text.specs.Lexemes.{IsDigits}

glyph_digit : (d : ℕ) → d < 10 → is_ascii_digit (digit_glyph false d) ≡ true
glyph_digit d small = grind (arith, nat_tests)

either_digits : (test : Bool) (xs ys : List ℕ) → IsDigits xs → IsDigits ys → IsDigits (cond test xs ys)
either_digits true xs ys left right = left
either_digits false xs ys left right = right

onto_digits : (k n : ℕ) (after : List ℕ) → list_all is_ascii_digit after ≡ true → IsDigits (digits_onto (suc k) 10 false n after)
onto_digits zero n after all =
    let last = digit_glyph false (n % 10) ∷ after in
    let are : IsDigits last = (glyph_digit (n % 10) (omega arith), all) in
    either_digits (n / 10 == 0) last last are are
onto_digits (suc k) n after all =
    let last = digit_glyph false (n % 10) ∷ after in
    let is = glyph_digit (n % 10) (omega arith) in
    either_digits (n / 10 == 0) last (digits_onto (suc k) 10 false (n / 10) last) (is, all) (onto_digits k (n / 10) last (and_from _ _ is all))

-- a number in decimal is digits
pub decimal_digits : (n : ℕ) → IsDigits (decimal n)
unfolding digits
decimal_digits n = onto_digits 63 n [] refl
