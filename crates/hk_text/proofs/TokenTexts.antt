-- Texts of tokens: whether there are any, and how they are told apart by their bytes.
use Rattle.std.proofs.Common.{◌≡◌, ◌≢◌, ◌==◌, ℕ, zero, suc, ◌+◌, ◌*◌, Bool, true, false, List, [], ◌∷◌, length, get_or, drop, refl, sym, ap, subst, ◌∙◌, arith}
use Rattle.std.specs.Prelude.{codes, All}
use Rattle.std.specs.Char.{is_ascii_digit, digit_value}
use Rattle.std.specs.Str.Parse.{digits_value_after}
use Rattle.std.specs.Str.{bytes_eq}
use Rattle.std.proofs.lemmas.Bool.Decides.{nat_tests}
use Rattle.std.proofs.lemmas.List.Elements.{All-tail}
use Rattle.std.proofs.lemmas.Slice.Eq.{bytes_eq-Decides}
use Rattle.std.proofs.lemmas.Str.{digit_value_digit}
use Rattle.std.proofs.lemmas.Str.Parse.{digit_at}
use Rattle.hk_text.specs.Bytes.{is_word_start}
use Rattle.hk_text.specs.Lexemes.{IsWord}
use Rattle.hk_text.specs.Numbers.{IsNumber}
use Rattle.hk_text.specs.Texts.{texts_of}
use Rattle.hk_text.specs.Tokens.{IsTokenIn}
use Rattle.hk_text.specs.declared.tokenizer.Token.{Token}
use Rattle.hk_text.proofs.Digits.{no_number}

-- the tokens after the first are of the line, where all are
pub tokens_after : {line : List ℕ} {tokens rest : List Token} {token : Token} → tokens ≡ token ∷ rest → All (IsTokenIn line) tokens → All (IsTokenIn line) rest
tokens_after {line = line} {rest = rest} {token = token} is all = All-tail (IsTokenIn line) token rest (subst (All (IsTokenIn line)) is all)

-- no tokens have no texts, and some have some
pub texts_over : (line : List ℕ) (tokens : List Token) → (length tokens == 0) ≡ true → texts_of line tokens ≡ []
texts_over line [] none = refl
texts_over line (token ∷ more) none = let never : ⊥ = grind (arith, nat_tests) in absurd never

pub texts_go_on : (line : List ℕ) (tokens : List Token) → (length tokens == 0) ≡ false → texts_of line tokens ≢ []
texts_go_on line [] some = λ _. cc
texts_go_on line (token ∷ more) some = λ none. cc

-- the test on two texts tells whether they are one
pub eq_same : {a b : List ℕ} → bytes_eq a b ≡ true → a ≡ b
eq_same {a = a} {b = b} test = (bytes_eq-Decides a b).0 test

pub same_eq : {a b : List ℕ} → a ≡ b → bytes_eq a b ≡ true
same_eq {a = a} {b = b} same = (bytes_eq-Decides a b).1 same

-- a test that isn't true is false
pub false_test : (test : Bool) → (test ≡ true → ⊥) → test ≡ false
false_test true never = absurd (never refl)
false_test false never = refl

-- two texts that differ aren't one: where their bytes are written out, the test is `refl`
pub differ : {a b : List ℕ} → a ≡ b → bytes_eq a b ≡ false → ⊥
differ {a = a} {b = b} same test = let equal : bytes_eq a b ≡ true = same_eq same in cc

-- two lists of texts that differ in the text at this index aren't one: `absurd (apart 0 x y refl)` for texts that begin with `(` and with `)`
pub apart : {texts xs ys : List (List ℕ)} (index : ℕ) → texts ≡ xs → texts ≡ ys → bytes_eq (get_or xs index []) (get_or ys index []) ≡ false → ⊥
apart index x y test = differ (ap (λ texts. get_or texts index []) (sym x ∙ y)) test

-- no texts aren't one text and more
pub apart_none : {texts more : List (List ℕ)} {text : List ℕ} → texts ≡ [] → texts ≡ text ∷ more → ⊥
apart_none x y = let none : [] ≡ _ ∷ _ = sym x ∙ y in cc

-- a list of texts has one first text, and one rest
pub same_first : {texts xs ys : List (List ℕ)} {x y : List ℕ} → texts ≡ x ∷ xs → texts ≡ y ∷ ys → x ≡ y
same_first x y = ap (λ texts. get_or texts 0 []) (sym x ∙ y)

pub same_rest : {texts xs ys : List (List ℕ)} {x y : List ℕ} → texts ≡ x ∷ xs → texts ≡ y ∷ ys → xs ≡ ys
same_rest x y = ap (drop 1) (sym x ∙ y)

-- a text that begins with no digit writes no number
pub mark_no_number : {text mark : List ℕ} {n : ℕ} → text ≡ mark → is_ascii_digit (get_or mark 0 0) ≡ false → IsNumber text n → ⊥
mark_no_number {text = text} {n = n} same other number = by text n (ap (λ bytes. is_ascii_digit (get_or bytes 0 0)) same ∙ other) number
  where
    by : (text : List ℕ) (n : ℕ) → is_ascii_digit (get_or text 0 0) ≡ false → IsNumber text n → ⊥
    by [] n other number = number.plain
    by (byte ∷ more) n other number = no_number (byte ∷ more) 0 n (omega arith) other number

-- a text that begins with no letter and no `_` is no word
pub mark_no_word : {text mark : List ℕ} → text ≡ mark → is_word_start (get_or mark 0 0) ≡ false → IsWord text → ⊥
mark_no_word {text = text} same other word = by text (ap (λ bytes. is_word_start (get_or bytes 0 0)) same ∙ other) word
  where
    by : (text : List ℕ) → is_word_start (get_or text 0 0) ≡ false → IsWord text → ⊥
    by [] other word = word
    by (byte ∷ more) other word = let start = word.0 in cc

-- a word writes no number
pub word_no_number : {text : List ℕ} {n : ℕ} → IsWord text → IsNumber text n → ⊥
word_no_number {text = text} {n = n} word number = by text n word number
  where
    by : (text : List ℕ) (n : ℕ) → IsWord text → IsNumber text n → ⊥
    by [] n word number = word
    by (byte ∷ more) n word number =
        let start = word.0 in
        let range = digit_at (byte ∷ more) 0 number.digits (omega arith) in
        grind (arith, nat_tests)

value_zero : (n : ℕ) (digits : List ℕ) → digits_value_after 10 n digits ≡ 0 → n ≡ 0
value_zero n [] none = none
value_zero n (digit ∷ digits) none = let before = value_zero (n * 10 + digit_value digit) digits none in omega (arith, before)

-- `0` alone writes 0
pub zero_text : {text : List ℕ} → IsNumber text 0 → text ≡ codes "0"
zero_text {text = text} number = by text number
  where
    by : (text : List ℕ) → IsNumber text 0 → text ≡ codes "0"
    by [] number = absurd number.plain
    by (byte ∷ []) number =
        let range = digit_at (byte ∷ []) 0 number.digits (omega arith) in
        let same : byte ≡ 48 = omega (arith, number.value, digit_value_digit byte range) in
        ap (λ b. b ∷ []) same
    by (byte ∷ next ∷ more) number =
        let range = digit_at (byte ∷ next ∷ more) 0 number.digits (omega arith) in
        let first : 0 * 10 + digit_value byte ≡ 0 = value_zero (0 * 10 + digit_value byte) (next ∷ more) number.value in
        let same : byte ≡ 48 = omega (arith, first, digit_value_digit byte range) in
        absurd (number.plain same)

-- another text writes a number above 0
pub nonzero_text : {text : List ℕ} {n : ℕ} → IsNumber text n → bytes_eq text (codes "0") ≡ false → (m : ℕ) × IsNumber text (suc m)
nonzero_text {text = text} {n = zero} number other = absurd (differ (zero_text number) other)
nonzero_text {text = text} {n = suc m} number other = (m, number)

-- a number above 0 is not written `0`
pub suc_text : {text : List ℕ} {n : ℕ} → IsNumber text (suc n) → bytes_eq text (codes "0") ≡ false
suc_text {text = text} {n = n} number = false_test (bytes_eq text (codes "0")) (λ test. no_zero (subst (λ t. IsNumber t (suc n)) (eq_same test) number))
  where
    no_zero : IsNumber (codes "0") (suc n) → ⊥
    no_zero number = let value : 0 ≡ suc n = number.value in omega (arith, value)
