-- Operands that no parenthesis stands around: what they begin with, and that texts begin with one at most.
use Rattle.std.proofs.Common.{◌≡◌, ℕ, false, List, [], ◌∷◌, ◌++◌, drop, get_or, bytes_eq, codes, refl, sym, ap, subst, ◌∙◌}
use Rattle.std.specs.Char.{is_ascii_digit}
use Rattle.hk_text.specs.Bytes.{is_word_start}
use Rattle.hk_text.specs.Lexemes.{IsWord}
use Rattle.hk_text.specs.Numbers.{IsNumber}
use Rattle.hk_terms.specs.SetTexts.{Values, listed, AreNumbers, no_number, then_number}
use Rattle.hk_terms.specs.NumTexts as nums
use Rattle.hk_terms.specs.Operands.{Operand, Word, Num, Set, AtomThen, atom_word, atom_item, atom_low, atom_high, atom_number, atom_one, atom_values}
use Rattle.hk_text.proofs.TokenTexts.{differ, apart, apart_none, same_first, same_rest, mark_no_number, mark_no_word, word_no_number}

-- texts begin with no operand where their first text begins with no letter and no digit, and isn't `{`: the three tests are `refl`
pub no_atom : {texts rest more : List (List ℕ)} {x : Operand} {text : List ℕ} → AtomThen texts x rest → texts ≡ text ∷ more → is_word_start (get_or text 0 0) ≡ false → is_ascii_digit (get_or text 0 0) ≡ false → bytes_eq (codes "{") text ≡ false → ⊥
no_atom (atom_word is word opening point) other letter digit brace = mark_no_word (same_first is other) letter word
no_atom (atom_item is word) other letter digit brace = mark_no_word (same_first is other) letter word
no_atom (atom_low is word) other letter digit brace = mark_no_word (same_first is other) letter word
no_atom (atom_high is word) other letter digit brace = mark_no_word (same_first is other) letter word
no_atom (atom_number is number) other letter digit brace = mark_no_number (same_first is other) digit number
no_atom (atom_one is) other letter digit brace = differ (same_first is other) brace
no_atom (atom_values is rising) other letter digit brace = differ (same_first is other) brace

-- texts that begin with an operand aren't none
pub atom_some : {texts rest : List (List ℕ)} {x : Operand} → AtomThen texts x rest → texts ≡ [] → ⊥
atom_some (atom_word is word opening point) none = apart_none none is
atom_some (atom_item is word) none = apart_none none is
atom_some (atom_low is word) none = apart_none none is
atom_some (atom_high is word) none = apart_none none is
atom_some (atom_number is number) none = apart_none none is
atom_some (atom_one is) none = apart_none none is
atom_some (atom_values is rising) none = apart_none none is

-- lists of numbers up to a brace are one
pub listed_one : (numbers others : List (List ℕ)) {values more : List ℕ} {rest after : List (List ℕ)} → AreNumbers numbers values → AreNumbers others more → listed numbers ++ (codes "}" ∷ rest) ≡ listed others ++ (codes "}" ∷ after) → (numbers ≡ others) × (rest ≡ after)
listed_one [] [] no_number no_number same = (refl, same_rest refl same)
listed_one [] (b ∷ []) no_number (then_number b_number written) same = absurd (mark_no_number (same_first same refl) refl b_number)
listed_one [] (b ∷ d ∷ others) no_number (then_number b_number written) same = absurd (mark_no_number (same_first same refl) refl b_number)
listed_one (a ∷ []) [] (then_number a_number written) no_number same = absurd (mark_no_number (same_first refl same) refl a_number)
listed_one (a ∷ c ∷ numbers) [] (then_number a_number written) no_number same = absurd (mark_no_number (same_first refl same) refl a_number)
listed_one (a ∷ []) (b ∷ []) (then_number a_number written) (then_number b_number other) same =
    (ap (λ text. text ∷ []) (same_first refl same), same_rest refl (same_rest refl same))
listed_one (a ∷ []) (b ∷ d ∷ others) (then_number a_number written) (then_number b_number other) same = absurd (differ (same_first refl (same_rest refl same)) refl)
listed_one (a ∷ c ∷ numbers) (b ∷ []) (then_number a_number written) (then_number b_number other) same = absurd (differ (same_first refl (same_rest refl same)) refl)
listed_one (a ∷ c ∷ numbers) (b ∷ d ∷ others) (then_number a_number written) (then_number b_number other) same =
    let first : a ≡ b = same_first refl same in
    let rest = listed_one (c ∷ numbers) (d ∷ others) written other (same_rest refl (same_rest refl same)) in
    (ap (λ text. text ∷ c ∷ numbers) first ∙ ap (λ texts. b ∷ texts) rest.0, rest.1)

-- `{ v }` isn't numbers in braces
no_value : {rest : List (List ℕ)} {values : List ℕ} (numbers after : List (List ℕ)) → AreNumbers numbers values → codes "v" ∷ codes "}" ∷ rest ≡ listed numbers ++ (codes "}" ∷ after) → ⊥
no_value [] after no_number same = differ (same_first refl same) refl
no_value (a ∷ []) after (then_number number written) same = mark_no_number (sym (same_first refl same)) refl number
no_value (a ∷ c ∷ numbers) after (then_number number written) same = mark_no_number (sym (same_first refl same)) refl number

-- texts that begin with a word don't begin with a number
pub word_or_number : {texts rest after : List (List ℕ)} {word digits : List ℕ} {n : ℕ} → texts ≡ word ∷ rest → IsWord word → texts ≡ digits ∷ after → IsNumber digits n → ⊥
word_or_number {word = word} {n = n} is letter other number = word_no_number letter (subst (λ text. IsNumber text n) (same_first other is) number)

-- texts begin with at most one operand, and one rest is left
pub atom_same : {texts rest after : List (List ℕ)} {x y : Operand} → AtomThen texts x rest → AtomThen texts y after → (x ≡ y) × (rest ≡ after)
atom_same (atom_word is word opening point) (atom_word other word' opening' point') = (ap Word (same_first is other), same_rest is other)
atom_same (atom_word is word opening point) (atom_item other word') = absurd (opening _ (same_rest is other))
atom_same (atom_word is word opening point) (atom_low other word') = absurd (point _ (same_rest is other))
atom_same (atom_word is word opening point) (atom_high other word') = absurd (point _ (same_rest is other))
atom_same (atom_word is word opening point) (atom_number other number) = absurd (word_or_number is word other number)
atom_same (atom_word is word opening point) (atom_one other) = absurd (mark_no_word (same_first is other) refl word)
atom_same (atom_word is word opening point) (atom_values other rising) = absurd (mark_no_word (same_first is other) refl word)
atom_same (atom_item is word) (atom_word other word' opening point) = absurd (opening _ (same_rest other is))
atom_same (atom_item is word) (atom_item other word') = (ap (λ text. Num (nums.Item text)) (same_first is other), ap (drop 4) (sym is ∙ other))
atom_same (atom_item is word) (atom_low other word') = absurd (apart 1 is other refl)
atom_same (atom_item is word) (atom_high other word') = absurd (apart 1 is other refl)
atom_same (atom_item is word) (atom_number other number) = absurd (word_or_number is word other number)
atom_same (atom_item is word) (atom_one other) = absurd (mark_no_word (same_first is other) refl word)
atom_same (atom_item is word) (atom_values other rising) = absurd (mark_no_word (same_first is other) refl word)
atom_same (atom_low is word) (atom_word other word' opening point) = absurd (point _ (same_rest other is))
atom_same (atom_low is word) (atom_item other word') = absurd (apart 1 is other refl)
atom_same (atom_low is word) (atom_low other word') = (ap (λ text. Num (nums.Low text)) (same_first is other), ap (drop 3) (sym is ∙ other))
atom_same (atom_low is word) (atom_high other word') = absurd (apart 2 is other refl)
atom_same (atom_low is word) (atom_number other number) = absurd (word_or_number is word other number)
atom_same (atom_low is word) (atom_one other) = absurd (mark_no_word (same_first is other) refl word)
atom_same (atom_low is word) (atom_values other rising) = absurd (mark_no_word (same_first is other) refl word)
atom_same (atom_high is word) (atom_word other word' opening point) = absurd (point _ (same_rest other is))
atom_same (atom_high is word) (atom_item other word') = absurd (apart 1 is other refl)
atom_same (atom_high is word) (atom_low other word') = absurd (apart 2 is other refl)
atom_same (atom_high is word) (atom_high other word') = (ap (λ text. Num (nums.High text)) (same_first is other), ap (drop 3) (sym is ∙ other))
atom_same (atom_high is word) (atom_number other number) = absurd (word_or_number is word other number)
atom_same (atom_high is word) (atom_one other) = absurd (mark_no_word (same_first is other) refl word)
atom_same (atom_high is word) (atom_values other rising) = absurd (mark_no_word (same_first is other) refl word)
atom_same (atom_number is number) (atom_word other word opening point) = absurd (word_or_number other word is number)
atom_same (atom_number is number) (atom_item other word) = absurd (word_or_number other word is number)
atom_same (atom_number is number) (atom_low other word) = absurd (word_or_number other word is number)
atom_same (atom_number is number) (atom_high other word) = absurd (word_or_number other word is number)
atom_same (atom_number is number) (atom_number other number') = (ap (λ text. Num (nums.Number false text)) (same_first is other), same_rest is other)
atom_same (atom_number is number) (atom_one other) = absurd (mark_no_number (same_first is other) refl number)
atom_same (atom_number is number) (atom_values other rising) = absurd (mark_no_number (same_first is other) refl number)
atom_same (atom_one is) (atom_word other word opening point) = absurd (mark_no_word (same_first other is) refl word)
atom_same (atom_one is) (atom_item other word) = absurd (mark_no_word (same_first other is) refl word)
atom_same (atom_one is) (atom_low other word) = absurd (mark_no_word (same_first other is) refl word)
atom_same (atom_one is) (atom_high other word) = absurd (mark_no_word (same_first other is) refl word)
atom_same (atom_one is) (atom_number other number) = absurd (mark_no_number (same_first other is) refl number)
atom_same (atom_one is) (atom_one other) = (refl, ap (drop 3) (sym is ∙ other))
atom_same (atom_one is) (atom_values {numbers = numbers} other rising) = absurd (no_value numbers _ rising.written (same_rest is other))
atom_same (atom_values is rising) (atom_word other word opening point) = absurd (mark_no_word (same_first other is) refl word)
atom_same (atom_values is rising) (atom_item other word) = absurd (mark_no_word (same_first other is) refl word)
atom_same (atom_values is rising) (atom_low other word) = absurd (mark_no_word (same_first other is) refl word)
atom_same (atom_values is rising) (atom_high other word) = absurd (mark_no_word (same_first other is) refl word)
atom_same (atom_values is rising) (atom_number other number) = absurd (mark_no_number (same_first other is) refl number)
atom_same (atom_values {numbers = numbers} is rising) (atom_one other) = absurd (no_value numbers _ rising.written (same_rest other is))
atom_same (atom_values {numbers = numbers} is rising) (atom_values {numbers = others} other rising') =
    let same = listed_one numbers others rising.written rising'.written (same_rest is other) in
    (ap (λ values. Set (Values values)) same.0, same.1)
