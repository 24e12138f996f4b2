-- What is made of the digits of a number.
use Rattle.std.proofs.Common.{◌≡◌, ◌≤◌, ◌<◌, ◌^◌, ℕ, ℤ, pos, negsuc, zero, suc, true, false, List, [], ◌∷◌, length, get_or, w64, of_z, to_z, FitsSigned, Ok, refl, sym, ap, ◌∙◌, subst, arith}
use Rattle.std.specs.Prelude.{neg_ℤ}
use Rattle.std.specs.Fmt.{decimal}
use Rattle.std.specs.Str.Parse.{AllDigits}
use Rattle.std.proofs.lemmas.Fmt.{decimal-digits_value}
use Rattle.std.proofs.lemmas.Bool.Decides.{nat_tests}
use Rattle.std.proofs.lemmas.Int.{ints, to_z-of_z}
use Rattle.std.proofs.lemmas.Str.Parse.{numerals_by_value, tells_digits}
use Rattle.hk_spec.specs.declared.expressions.NumExpr.TheOpen.{NumExpr-F}
use Rattle.hk_spec.specs.declared.expressions.NumExpr.TheVariants.{Lit, rolls-Lit}
use Rattle.hk_text.specs.Numbers.{IsNumber}
use Rattle.hk_text.proofs.Digits.{IsNumber-one}
use Rattle.hk_terms.specs.Names.{Names, WritesUpTo}
use Rattle.hk_terms.specs.NumTexts.{Number, IsSigned}
use Rattle.hk_terms.specs.Outcomes.{IsNumOf}
use Rattle.hk_terms.proofs.Leaves.{num_leaf}

-- a text that writes a number has its digits
pub digits_are : {text : List ℕ} {n : ℕ} → IsNumber text n → n < 2 ^ 64 → decimal n ≡ text
digits_are {text = text} {n = n} number fits =
    ap decimal (sym number.value) ∙ decimal-digits_value (numerals_by_value (AllDigits 10) tells_digits) text number.digits (some text number) (one text number) (omega (arith, number.value, fits))
  where
    some : (text : List ℕ) → IsNumber text n → 0 < length text
    some [] number = absurd number.plain
    some (byte ∷ more) number = omega arith

    one : (text : List ℕ) → IsNumber text n → get_or text 0 0 ≡ 48 → length text ≡ 1
    one [] number zero_first = absurd number.plain
    one (byte ∷ []) number zero_first = refl
    one (first ∷ second ∷ more) number zero_first = absurd (number.plain zero_first)

-- it writes no number but this one
pub writes_up_to : {text : List ℕ} {n most : ℕ} → IsNumber text n → n ≤ most → WritesUpTo most text
writes_up_to {text = text} {n = n} number small other is = omega (arith, small, IsNumber-one text other n is number)

-- the negative of a number within the limit survives in a word of 64 bits
pub negated_in_word : (z : ℤ) (n : ℕ) → z ≡ neg_ℤ (pos n) → n ≤ 1000000000000 → to_z w64 (of_z w64 z) ≡ neg_ℤ (pos n)
negated_in_word z n is small = ap (λ y. to_z w64 (of_z w64 y)) is ∙ to_z-of_z w64 (neg_ℤ (pos n)) (fits n small)
  where
    fits : (n : ℕ) → n ≤ 1000000000000 → FitsSigned w64 (neg_ℤ (pos n))
    fits zero small = omega (arith, ints)
    fits (suc n) small = omega (arith, ints)

-- a number within the limit, without a sign
pub plain_literal : (names : Names) {digits : List ℕ} {n : ℕ} (z : ℤ) → IsNumber digits n → n ≤ 1000000000000 → z ≡ pos n → IsNumOf names (Number false digits) (Ok (Lit z))
plain_literal names {digits = digits} {n = n} z number small is =
    subst (λ y. IsNumOf names (Number false digits) (Ok (Lit y))) (sym is)
    (num_leaf names (NumExpr-F.Lit (pos n)) (Lit (pos n)) (Number false digits) (rolls-Lit (pos n)) (ap (Number false) (digits_are number (omega (arith, small)))) (grind (arith, nat_tests)) refl tt (writes_up_to number small))

-- and with `-` in front
pub minus_literal : (names : Names) {digits : List ℕ} {n : ℕ} (z : ℤ) → IsSigned true digits → IsNumber digits n → n ≤ 1000000000000 → z ≡ neg_ℤ (pos n) → IsNumOf names (Number true digits) (Ok (Lit z))
minus_literal names {digits = digits} {n = n} z signed number small is = by n number small is
  where
    by : (n : ℕ) → IsNumber digits n → n ≤ 1000000000000 → z ≡ neg_ℤ (pos n) → IsNumOf names (Number true digits) (Ok (Lit z))
    by zero number small is = let never : ⊥ = omega (arith, IsNumber-one digits zero (suc signed.0) number signed.1) in absurd never
    by (suc n) number small is =
        subst (λ y. IsNumOf names (Number true digits) (Ok (Lit y))) (sym is)
        (num_leaf names (NumExpr-F.Lit (negsuc n)) (Lit (negsuc n)) (Number true digits) (rolls-Lit (negsuc n)) (ap (Number true) (digits_are number (omega (arith, small)))) (grind (arith, nat_tests)) refl tt (writes_up_to number small))
