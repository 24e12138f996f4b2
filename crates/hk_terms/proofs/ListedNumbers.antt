-- Numbers with commas between and a closing brace after them, each above the one before it.
use Rattle.std.proofs.Common.{◌≡◌, ℕ, ◌+◌, ◌<◌, ◌≤◌, zero, suc, List, [], ◌∷◌, ◌++◌, slice_index, refl, sym, ap, ◌∙◌, subst, arith}
use Rattle.std.specs.Prelude.{codes}
use Rattle.std.specs.List.Sorted.{IsStrictlyIncreasing}
use Rattle.hk_text.specs.Numbers.{IsNumber}
use Rattle.hk_text.proofs.Digits.{IsNumber-one}
use Rattle.hk_terms.specs.SetTexts.{listed, AreNumbers, no_number, then_number, AreRisingNumbers}
use Rattle.hk_text.proofs.TokenTexts.{apart, same_first, same_rest}

-- after a number the texts go on with greater numbers, each after a comma, and a closing brace
pub data MoreThen : ℕ → List (List ℕ) → List (List ℕ) → List ℕ → List (List ℕ) → Type 0 where
  more_over : {last : ℕ} {texts rest : List (List ℕ)} → texts ≡ codes "}" ∷ rest → MoreThen last texts [] [] rest
  more_next : {last n : ℕ} {digits : List ℕ} {texts after numbers rest : List (List ℕ)} {values : List ℕ}
      → texts ≡ codes "," ∷ digits ∷ after → IsNumber digits n → last < n → MoreThen n after numbers values rest
      → MoreThen last texts (digits ∷ numbers) (n ∷ values) rest

-- the texts begin with rising numbers and a closing brace
pub data NumbersThen : List (List ℕ) → List (List ℕ) → List ℕ → List (List ℕ) → Type 0 where
  numbers_none : {texts rest : List (List ℕ)} → texts ≡ codes "}" ∷ rest → NumbersThen texts [] [] rest
  numbers_some : {n : ℕ} {digits : List ℕ} {texts after numbers rest : List (List ℕ)} {values : List ℕ}
      → texts ≡ digits ∷ after → IsNumber digits n → MoreThen n after numbers values rest
      → NumbersThen texts (digits ∷ numbers) (n ∷ values) rest

-- numbers rise from this one on
abbrev pub RiseFrom : ℕ → List ℕ → Type 0
RiseFrom least [] = Unit {0}
RiseFrom least (n ∷ values) = (least ≤ n) × RiseFrom (suc n) values

-- numbers that rise, one after the other
rising_from : (n : ℕ) (values : List ℕ) → RiseFrom (suc n) values → IsStrictlyIncreasing (n ∷ values)
rising_from n [] rise k inside = let never : ⊥ = omega (arith, inside) in absurd never
rising_from n (next ∷ values) rise zero inside = rise.0
rising_from n (next ∷ values) rise (suc k) inside =
    let place : suc (k + 1) ≡ suc k + 1 = omega arith in
    subst (λ j. slice_index (next ∷ values) k < slice_index (n ∷ next ∷ values) j) place (rising_from next values rise.1 k (omega (arith, inside)))

rise_from : (n : ℕ) (values : List ℕ) → IsStrictlyIncreasing (n ∷ values) → RiseFrom (suc n) values
rise_from n [] increasing = tt
rise_from n (next ∷ values) increasing = (increasing 0 (omega arith), rise_from next values later)
  where
    later : IsStrictlyIncreasing (next ∷ values)
    later k inside =
        let place : suc k + 1 ≡ suc (k + 1) = omega arith in
        subst (λ j. slice_index (next ∷ values) k < slice_index (n ∷ next ∷ values) j) place (increasing (suc k) (omega (arith, inside)))

-- numbers, each after a comma
after_commas : List (List ℕ) → List (List ℕ)
after_commas [] = []
after_commas (text ∷ numbers) = codes "," ∷ text ∷ after_commas numbers

listed_first : (text : List ℕ) (numbers : List (List ℕ)) → listed (text ∷ numbers) ≡ text ∷ after_commas numbers
unfolding after_commas
listed_first text [] = refl
listed_first text (next ∷ numbers) = ap (λ texts. text ∷ codes "," ∷ texts) (listed_first next numbers)

-- the texts after a number are those of other numbers, each after a comma
more_texts : {last : ℕ} {texts numbers rest : List (List ℕ)} {values : List ℕ} → MoreThen last texts numbers values rest → texts ≡ after_commas numbers ++ (codes "}" ∷ rest)
unfolding after_commas
more_texts (more_over over) = over
more_texts (more_next {digits = next} begins number above more) = begins ∙ ap (λ texts. codes "," ∷ next ∷ texts) (more_texts more)

more_numbers : {last : ℕ} {texts numbers rest : List (List ℕ)} {values : List ℕ} → MoreThen last texts numbers values rest → AreNumbers numbers values
more_numbers (more_over over) = no_number
more_numbers (more_next begins number above more) = then_number number (more_numbers more)

more_rise : {last : ℕ} {texts numbers rest : List (List ℕ)} {values : List ℕ} → MoreThen last texts numbers values rest → RiseFrom (suc last) values
more_rise (more_over over) = tt
more_rise (more_next begins number above more) = (above, more_rise more)

-- the texts are those of a list of numbers and a closing brace
pub numbers_texts : {texts numbers rest : List (List ℕ)} {values : List ℕ} → NumbersThen texts numbers values rest → texts ≡ listed numbers ++ (codes "}" ∷ rest)
numbers_texts (numbers_none over) = over
numbers_texts (numbers_some {digits = digits} {numbers = numbers} {rest = rest} begins number more) = begins ∙ ap (λ texts. digits ∷ texts) (more_texts more) ∙ ap (λ texts. texts ++ (codes "}" ∷ rest)) (sym (listed_first digits numbers))

pub numbers_are : {texts numbers rest : List (List ℕ)} {values : List ℕ} → NumbersThen texts numbers values rest → AreNumbers numbers values
numbers_are (numbers_none over) = no_number
numbers_are (numbers_some begins number more) = then_number number (more_numbers more)

pub numbers_rise : {texts numbers rest : List (List ℕ)} {values : List ℕ} → NumbersThen texts numbers values rest → RiseFrom 0 values
numbers_rise (numbers_none over) = tt
numbers_rise (numbers_some begins number more) = (omega arith, more_rise more)

pub numbers_rising : {texts numbers rest : List (List ℕ)} {values : List ℕ} → NumbersThen texts numbers values rest → AreRisingNumbers numbers
numbers_rising (numbers_none over) = record { numbers = []; written = no_number; rising = λ k inside. let never : ⊥ = omega (arith, inside) in absurd never }
numbers_rising (numbers_some {n = n} {values = values} begins number more) = record { numbers = n ∷ values; written = then_number number (more_numbers more); rising = rising_from n values (more_rise more) }

-- texts of rising numbers begin so
more_from : {n : ℕ} {texts numbers rest : List (List ℕ)} {values : List ℕ} → texts ≡ after_commas numbers ++ (codes "}" ∷ rest) → AreNumbers numbers values → RiseFrom (suc n) values → MoreThen n texts numbers values rest
unfolding after_commas
more_from is no_number rise = more_over is
more_from is (then_number number more) rise = more_next is number rise.0 (more_from refl more rise.1)

pub numbers_from : {texts numbers rest : List (List ℕ)} {values : List ℕ} → AreNumbers numbers values → texts ≡ listed numbers ++ (codes "}" ∷ rest) → IsStrictlyIncreasing values → NumbersThen texts numbers values rest
numbers_from no_number is increasing = numbers_none is
numbers_from {rest = rest} (then_number {text = text} {n = n} {texts = numbers} {numbers = values} number more) is increasing =
    numbers_some (is ∙ ap (λ texts. texts ++ (codes "}" ∷ rest)) (listed_first text numbers)) number (more_from refl more (rise_from n values increasing))

-- of the texts after a number that go on with a comma and a number, what follows is known
pub more_known : {last n : ℕ} {digits : List ℕ} {texts after numbers rest : List (List ℕ)} {values : List ℕ} → MoreThen last texts numbers values rest → texts ≡ codes "," ∷ digits ∷ after → IsNumber digits n → (others : List (List ℕ)) × (other_values : List ℕ) × (last < n) × MoreThen n after others other_values rest
more_known (more_over over) is number = absurd (apart 0 over is refl)
more_known {last = last} {n = n} {digits = digits} {after = after} {rest = rest} (more_next {n = m} {digits = others} {numbers = numbers} {values = values} begins other above more) is number =
    let same_text = same_first (same_rest begins is) refl in
    let same_after = same_rest (same_rest begins is) refl in
    let same = IsNumber-one digits m n (subst (λ text. IsNumber text m) (sym same_text) other) number in
    (numbers, values, subst (λ k. last < k) same above, subst (λ k. MoreThen k after numbers values rest) same (subst (λ texts. MoreThen m texts numbers values rest) (sym same_after) more))
