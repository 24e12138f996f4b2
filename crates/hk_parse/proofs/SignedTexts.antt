-- Numbers with a sign or without, as texts begin with them.
use Rattle.std.proofs.Common.{◌≡◌, ◌≤◌, ℕ, ℤ, pos, zero, suc, Bool, true, false, Option, Some, List, [], ◌∷◌, ◌++◌, w64, of_z, to_z, refl, sym, ap, ◌∙◌, subst, arith}
use Rattle.std.specs.Prelude.{codes, neg_ℤ}
use Rattle.std.proofs.lemmas.Int.{ints, to_z-of_z}
use Rattle.std.proofs.lemmas.List.{append-nil}
use Rattle.hk_kinds.specs.Limits.{IsWithinLimit}
use Rattle.hk_text.specs.Numbers.{IsNumber}
use Rattle.hk_text.proofs.Digits.{IsNumber-one}
use Rattle.hk_parse.specs.inside.Headers.{IsSignedOf, SignedThen}
use Rattle.hk_terms.specs.NumTexts.{IsSigned, number_texts}
use Rattle.hk_terms.proofs.LiteralTexts.{digits_are, writes_up_to}
use Rattle.hk_text.proofs.TokenTexts.{same_first, same_rest, mark_no_number}

-- a number within the limit survives in a word of 64 bits
pub within_in_word : (n : ℤ) → IsWithinLimit n → to_z w64 (of_z w64 n) ≡ n
within_in_word n within = to_z-of_z w64 n (omega (arith, ints, within.least, within.most))

-- a number within the limit, without a sign
pub plain_value : {digits : List ℕ} {n : ℕ} (z : ℤ) → IsNumber digits n → n ≤ 1000000000000 → z ≡ pos n → IsSignedOf false digits (Some z)
plain_value {digits = digits} {n = n} z number small is =
    subst (λ y. IsSignedOf false digits (Some y)) (sym is)
    (refl, digits_are number (omega (arith, small)), record { least = omega (arith, ints); most = omega (arith, ints) }, writes_up_to number small)

-- and with `-` in front
pub minus_value : {digits : List ℕ} {n : ℕ} (z : ℤ) → IsSigned true digits → IsNumber digits n → n ≤ 1000000000000 → z ≡ neg_ℤ (pos n) → IsSignedOf true digits (Some z)
minus_value {digits = digits} {n = n} z signed number small is = by n number small is
  where
    by : (n : ℕ) → IsNumber digits n → n ≤ 1000000000000 → z ≡ neg_ℤ (pos n) → IsSignedOf true digits (Some z)
    by zero number small is = let never : ⊥ = omega (arith, IsNumber-one digits zero (suc signed.0) number signed.1) in absurd never
    by (suc n) number small is =
        subst (λ y. IsSignedOf true digits (Some y)) (sym is)
        (refl, digits_are number (omega (arith, small)), record { least = omega (arith, ints); most = omega (arith, ints) }, writes_up_to number small)

-- texts that begin with `-` and with a number begin with one that has a minus
pub minus_then : {texts after rest : List (List ℕ)} {digits : List ℕ} {made : Option ℤ} → texts ≡ codes "-" ∷ after → after ≡ digits ∷ rest → IsSigned true digits → IsSignedOf true digits made → SignedThen texts made rest
minus_then {digits = digits} begins number signed made = record {
  negative = true;
  digits = digits;
  texts_are = begins ∙ ap (λ ts. codes "-" ∷ ts) number;
  written = signed;
  is_made = made;
}

minus_no_digits : {digits : List ℕ} {n : ℕ} → digits ≡ codes "-" → IsNumber digits n → ⊥
minus_no_digits same number = mark_no_number same refl number

-- texts begin with one number, and one rest is left
pub signed_one : (negative other : Bool) (digits others : List ℕ) {texts rest after : List (List ℕ)} → IsSigned negative digits → IsSigned other others
    → texts ≡ number_texts negative digits ++ rest → texts ≡ number_texts other others ++ after → (negative ≡ other) × (digits ≡ others) × (rest ≡ after)
signed_one false false digits others signed signed' x y = (refl, same_first x y, same_rest x y)
signed_one false true digits others signed signed' x y = absurd (minus_no_digits (same_first x y) signed.1)
signed_one true false digits others signed signed' x y = absurd (minus_no_digits (same_first y x) signed'.1)
signed_one true true digits others signed signed' x y = (refl, same_first refl (same_rest x y), same_rest refl (same_rest x y))

-- what is left after a number that was read is left after each number that is written there
pub signed_rest : {texts rest after : List (List ℕ)} {made : Option ℤ} (negative : Bool) (digits : List ℕ) → SignedThen texts made rest → IsSigned negative digits → texts ≡ number_texts negative digits ++ after → rest ≡ after
signed_rest negative digits read signed is = (signed_one read.negative negative read.digits digits read.written signed read.texts_are is).2

-- what was made is known by another name
pub made_is : {texts rest : List (List ℕ)} {made other : Option ℤ} → SignedThen texts made rest → made ≡ other → SignedThen texts other rest
made_is {texts = texts} {rest = rest} read same = subst (λ m. SignedThen texts m rest) same read

-- a number at the end of the texts
pub signed_end : {texts : List (List ℕ)} (negative : Bool) (digits : List ℕ) → texts ≡ number_texts negative digits → texts ≡ number_texts negative digits ++ []
signed_end negative digits is = is ∙ sym (append-nil (number_texts negative digits))
