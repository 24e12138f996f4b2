-- Which lexemes begin with a byte, and how far the longest goes.
use Rattle.std.proofs.Common.{◌≡◌, ℕ, Bool, true, List, [], ◌∷◌, ◌++◌, take, drop, refl, subst, arith}
use Rattle.std.specs.Char.{is_ascii_digit}
use Rattle.std.specs.List.{list_all, prefix_len}
use Rattle.std.proofs.lemmas.Bool.Decides.{nat_tests}
use Rattle.hk_text.specs.declared.lexemes.TokenKind.{TokenKind}
use Rattle.hk_text.specs.declared.lexemes.TokenKind.TheVariants.{Word, Number, Symbol}
use Rattle.hk_text.specs.Bytes.{is_word_start, is_word_byte, is_symbol_byte, is_symbol_pair}
use Rattle.hk_text.specs.Lexemes.{IsWord, IsDigits, IsSymbol, IsLexeme, IsLongest}
use Rattle.hk_text.proofs.Fronts.{list_all-front, after_front, list_all-middle}

word_apart_digit : (b : ℕ) → is_word_start b ≡ true → is_ascii_digit b ≡ true → ⊥
word_apart_digit b word digit = grind (arith, nat_tests)

word_apart_symbol : (b : ℕ) → is_word_start b ≡ true → is_symbol_byte b ≡ true → ⊥
word_apart_symbol b word symbol = grind (arith, nat_tests)

word_apart_pair : (b c : ℕ) → is_word_start b ≡ true → is_symbol_pair b c ≡ true → ⊥
word_apart_pair b c word symbol = grind (arith, nat_tests)

digit_apart_symbol : (b : ℕ) → is_ascii_digit b ≡ true → is_symbol_byte b ≡ true → ⊥
digit_apart_symbol b digit symbol = grind (arith, nat_tests)

digit_apart_pair : (b c : ℕ) → is_ascii_digit b ≡ true → is_symbol_pair b c ≡ true → ⊥
digit_apart_pair b c digit symbol = grind (arith, nat_tests)

-- a byte that begins a word begins no symbol
pub word_no_symbol : (b : ℕ) (more : List ℕ) → is_word_start b ≡ true → IsSymbol (b ∷ more) → ⊥
word_no_symbol b [] word symbol = word_apart_symbol b word symbol
word_no_symbol b (c ∷ []) word symbol = word_apart_pair b c word symbol
word_no_symbol b (c ∷ d ∷ more) word symbol = symbol

-- a digit begins no symbol
pub digit_no_symbol : (b : ℕ) (more : List ℕ) → is_ascii_digit b ≡ true → IsSymbol (b ∷ more) → ⊥
digit_no_symbol b [] digit symbol = digit_apart_symbol b digit symbol
digit_no_symbol b (c ∷ []) digit symbol = digit_apart_pair b c digit symbol
digit_no_symbol b (c ∷ d ∷ more) digit symbol = symbol

-- two lexemes that begin with one byte are of one kind
pub same_kind : (j k : TokenKind) (b : ℕ) (xs ys : List ℕ) → IsLexeme j (b ∷ xs) → IsLexeme k (b ∷ ys) → j ≡ k
same_kind Word Word b xs ys x y = refl
same_kind Word Number b xs ys x y = absurd (word_apart_digit b x.0 y.0)
same_kind Word Symbol b xs ys x y = absurd (word_no_symbol b ys x.0 y)
same_kind Number Word b xs ys x y = absurd (word_apart_digit b y.0 x.0)
same_kind Number Number b xs ys x y = refl
same_kind Number Symbol b xs ys x y = absurd (digit_no_symbol b ys x.0 y)
same_kind Symbol Word b xs ys x y = absurd (word_no_symbol b xs y.0 x)
same_kind Symbol Number b xs ys x y = absurd (digit_no_symbol b xs y.0 x)
same_kind Symbol Symbol b xs ys x y = refl

-- a front that passes a test goes on no further than the longest
ends : (p : ℕ → Bool) (xs more rest : List ℕ) → drop (prefix_len p xs) xs ≡ more ++ rest → list_all p (take (prefix_len p xs) xs ++ more) ≡ true → more ≡ []
ends p xs [] rest is all = refl
ends p xs (x ∷ more) rest is all =
    let passes = list_all-middle p (take (prefix_len p xs) xs) x more all in
    let fails = after_front p xs x (more ++ rest) is in
    cc

-- a word goes on to the last byte that a word may have
pub longest_word : (b : ℕ) (xs : List ℕ) → is_word_start b ≡ true → IsLongest Word (b ∷ take (prefix_len is_word_byte xs) xs) (drop (prefix_len is_word_byte xs) xs)
longest_word b xs word =
    let front = take (prefix_len is_word_byte xs) xs in
    let lexeme : IsWord (b ∷ front) = (word, list_all-front is_word_byte xs) in
    record {
      lexeme = lexeme;
      longest = λ other more rest is goes_on.
          let same = same_kind other Word b (front ++ more) front goes_on lexeme in
          let on : IsWord (b ∷ (front ++ more)) = subst (λ k. IsLexeme k (b ∷ (front ++ more))) same goes_on in
          ends is_word_byte xs more rest is on.1;
    }

-- a number goes on to the last digit
pub longest_number : (b : ℕ) (xs : List ℕ) → is_ascii_digit b ≡ true → IsLongest Number (b ∷ take (prefix_len is_ascii_digit xs) xs) (drop (prefix_len is_ascii_digit xs) xs)
longest_number b xs digit =
    let front = take (prefix_len is_ascii_digit xs) xs in
    let lexeme : IsDigits (b ∷ front) = (digit, list_all-front is_ascii_digit xs) in
    record {
      lexeme = lexeme;
      longest = λ other more rest is goes_on.
          let same = same_kind other Number b (front ++ more) front goes_on lexeme in
          let on : IsDigits (b ∷ (front ++ more)) = subst (λ k. IsLexeme k (b ∷ (front ++ more))) same goes_on in
          ends is_ascii_digit xs more rest is on.1;
    }
