-- Reading numbers in braces from the left.
use Rattle.std.proofs.Common.{◌≡◌, ℕ, ◌<◌, List, [], ◌∷◌, ◌++◌, Result, Ok, refl, sym, ap, ◌∙◌, subst}
use Rattle.std.specs.Prelude.{codes}
use Rattle.hk_text.specs.Numbers.{IsNumber}
use Rattle.hk_text.proofs.Digits.{IsNumber-one}
use Rattle.hk_terms.specs.declared.flaws.Flaw.{Flaw}
use Rattle.hk_terms.specs.Atoms.{IsBitsOf, ReadsValues}
use Rattle.hk_terms.specs.inside.Forms.{with_number}
use Rattle.hk_terms.specs.Operands.{atom_values}
use Rattle.hk_terms.specs.SetTexts.{listed, AreRisingNumbers}
use Rattle.hk_terms.proofs.ListedNumbers.{MoreThen, more_over, more_next, more_known, NumbersThen, numbers_none, numbers_some, numbers_texts, numbers_are, numbers_rise, numbers_rising, numbers_from}
use Rattle.hk_terms.proofs.NumbersMade.{with_numbers, with_none, with_one, bits_of_numbers}
use Rattle.hk_text.proofs.TokenTexts.{apart, mark_no_number, same_first, same_rest}

-- all numbers of the texts are read, and this is made of them
pub record AreRead (texts : List (List ℕ)) (made : Result ℕ Flaw) (rest : List (List ℕ)) : Type 0 where
  pub numbers : List (List ℕ)
  pub values : List ℕ
  pub begin : NumbersThen texts numbers values rest
  pub made_is : with_numbers (Ok 0) values ≡ made

-- numbers up to this one are read: with those that are left they are all, and where there are others, these are left
pub record IsReading (whole : List (List ℕ)) (last : List ℕ) (made : Result ℕ Flaw) (left : List (List ℕ)) : Type 0 where
  pub value : ℕ
  pub number : IsNumber last value
  pub said : (numbers : List (List ℕ)) (values : List ℕ) (rest : List (List ℕ)) → MoreThen value left numbers values rest → AreRead whole (with_numbers made values) rest
  pub needed : (numbers : List (List ℕ)) (values : List ℕ) (rest : List (List ℕ)) → NumbersThen whole numbers values rest → (others : List (List ℕ)) × (other_values : List ℕ) × MoreThen value left others other_values rest

-- no texts are rising numbers and a closing brace
abbrev pub NoNumbers : List (List ℕ) → Type 0
NoNumbers whole = (numbers rest : List (List ℕ)) → whole ≡ listed numbers ++ (codes "}" ∷ rest) → AreRisingNumbers numbers → ⊥

-- the first number
pub reading_first : (whole : List (List ℕ)) {first : List ℕ} {n : ℕ} {left : List (List ℕ)} (made : Result ℕ Flaw) → whole ≡ first ∷ left → IsNumber first n → made ≡ with_number (Ok 0) n → IsReading whole first made left
reading_first whole {first = first} {n = n} {left = left} made begins number is = record {
  value = n;
  number = number;
  said = λ numbers values rest more. record { numbers = first ∷ numbers; values = n ∷ values; begin = numbers_some begins number more; made_is = with_one (Ok 0) n values ∙ ap (λ made. with_numbers made values) (sym is) };
  needed = needed;
}
  where
    needed : (numbers : List (List ℕ)) (values : List ℕ) (rest : List (List ℕ)) → NumbersThen whole numbers values rest → (others : List (List ℕ)) × (other_values : List ℕ) × MoreThen n left others other_values rest
    needed numbers values rest (numbers_none over) = absurd (mark_no_number (same_first begins over) refl number)
    needed numbers values rest (numbers_some {n = m} {digits = digits} {numbers = others} {values = other_values} starts other more) =
        let same = IsNumber-one first m n (subst (λ text. IsNumber text m) (same_first starts begins) other) number in
        (others, other_values, subst (λ k. MoreThen k left others other_values rest) same (subst (λ texts. MoreThen m texts others other_values rest) (same_rest starts begins) more))

-- one number more
pub reading_next : {whole left after : List (List ℕ)} {last next : List ℕ} {n : ℕ} {made : Result ℕ Flaw} (grown : Result ℕ Flaw) (reading : IsReading whole last made left) → left ≡ codes "," ∷ next ∷ after → IsNumber next n → reading.value < n → grown ≡ with_number made n → IsReading whole next grown after
reading_next {whole = whole} {next = next} {n = n} {made = made} grown reading begins number above is = record {
  value = n;
  number = number;
  said = λ numbers values rest more. subst (λ made. AreRead whole made rest) (with_one made n values ∙ ap (λ made. with_numbers made values) (sym is)) (reading.said (next ∷ numbers) (n ∷ values) rest (more_next begins number above more));
  needed = λ numbers values rest all.
      let left = reading.needed numbers values rest all in
      let known = more_known left.2 begins number in
      (known.0, known.1, known.3);
}

-- what is made of all numbers
said_of : {whole rest : List (List ℕ)} {made : Result ℕ Flaw} → AreRead whole made rest → ReadsValues (codes "{" ∷ whole) made rest
said_of read = record {
  numbers = read.numbers;
  begins = atom_values (ap (λ texts. codes "{" ∷ texts) (numbers_texts read.begin)) (numbers_rising read.begin);
  is_made = subst (IsBitsOf read.numbers) read.made_is (bits_of_numbers (numbers_rise read.begin) (numbers_are read.begin));
}

-- the closing brace
pub reading_over : {whole left rest : List (List ℕ)} {last : List ℕ} {made : Result ℕ Flaw} → IsReading whole last made left → left ≡ codes "}" ∷ rest → ReadsValues (codes "{" ∷ whole) made rest
reading_over {whole = whole} {rest = rest} {made = made} reading over =
    said_of (subst (λ made. AreRead whole made rest) (with_none made) (reading.said [] [] rest (more_over over)))

-- no numbers at all
pub reading_none : {whole rest : List (List ℕ)} → whole ≡ codes "}" ∷ rest → ReadsValues (codes "{" ∷ whole) (Ok 0) rest
reading_none over = said_of (record { numbers = []; values = []; begin = numbers_none over; made_is = with_none (Ok 0) })

-- texts that begin with no closing brace and no number
pub none_first : {whole : List (List ℕ)} → ((rest : List (List ℕ)) → whole ≡ codes "}" ∷ rest → ⊥) → ((digits : List ℕ) (n : ℕ) (rest : List (List ℕ)) → whole ≡ digits ∷ rest → IsNumber digits n → ⊥) → NoNumbers whole
none_first {whole = whole} no_brace no_number numbers rest is rising = by (numbers_from rising.written is rising.rising)
  where
    by : {numbers rest : List (List ℕ)} {values : List ℕ} → NumbersThen whole numbers values rest → ⊥
    by {rest = rest} (numbers_none over) = no_brace rest over
    by (numbers_some {n = n} {digits = digits} {after = after} begins number more) = no_number digits n after begins number

-- where what is left goes on so in no way
stuck : {whole left : List (List ℕ)} {last : List ℕ} {made : Result ℕ Flaw} (reading : IsReading whole last made left) → ((others : List (List ℕ)) (values : List ℕ) (rest : List (List ℕ)) → MoreThen reading.value left others values rest → ⊥) → NoNumbers whole
stuck reading never numbers rest is rising =
    let left = reading.needed numbers rising.numbers rest (numbers_from rising.written is rising.rising) in
    never left.0 left.1 rest left.2

-- where it begins with no closing brace and no comma
pub none_comma : {whole left : List (List ℕ)} {last : List ℕ} {made : Result ℕ Flaw} → IsReading whole last made left → ((rest : List (List ℕ)) → left ≡ codes "}" ∷ rest → ⊥) → ((rest : List (List ℕ)) → left ≡ codes "," ∷ rest → ⊥) → NoNumbers whole
none_comma {left = left} reading no_brace no_comma = stuck reading (λ others values rest more. by more)
  where
    by : {last : ℕ} {others rest : List (List ℕ)} {values : List ℕ} → MoreThen last left others values rest → ⊥
    by {rest = rest} (more_over over) = no_brace rest over
    by (more_next {digits = digits} {after = after} begins number above more) = no_comma (digits ∷ after) begins

-- where no number comes after the comma
pub none_number : {whole left after : List (List ℕ)} {last : List ℕ} {made : Result ℕ Flaw} → IsReading whole last made left → left ≡ codes "," ∷ after → ((digits : List ℕ) (n : ℕ) (rest : List (List ℕ)) → after ≡ digits ∷ rest → IsNumber digits n → ⊥) → NoNumbers whole
none_number {left = left} {after = after} reading comma no_number = stuck reading (λ others values rest more. by more)
  where
    by : {last : ℕ} {others rest : List (List ℕ)} {values : List ℕ} → MoreThen last left others values rest → ⊥
    by (more_over over) = absurd (apart 0 over comma refl)
    by (more_next {n = n} {digits = digits} {after = others} begins number above more) = no_number digits n others (same_rest comma begins) number

-- where the next number isn't greater
pub none_above : {whole left after : List (List ℕ)} {last next : List ℕ} {n : ℕ} {made : Result ℕ Flaw} (reading : IsReading whole last made left) → left ≡ codes "," ∷ next ∷ after → IsNumber next n → (reading.value < n → ⊥) → NoNumbers whole
none_above reading begins number not_above = stuck reading (λ others values rest more. not_above (more_known more begins number).2)
