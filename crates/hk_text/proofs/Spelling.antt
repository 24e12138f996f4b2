-- Lines that are made of given texts: a token each, with blanks between them where two would be one.
use Rattle.std.proofs.Common.{◌≡◌, ℕ, ◌+◌, ◌==◌, Bool, true, false, not, ◌&&◌, cond, List, [], ◌∷◌, ◌++◌, length, refl, sym, ap, subst, ◌∙◌, append_assoc, arith, length-append, IsTrue}
use Rattle.std.specs.Char.{is_ascii_digit}
use Rattle.std.specs.List.{list_all}
use Rattle.std.proofs.lemmas.Bool.{and_parts, and_from}
use Rattle.std.proofs.lemmas.Bool.Decides.{nat_tests}
use Rattle.hk_text.specs.declared.lexemes.TokenKind.{TokenKind}
use Rattle.hk_text.specs.declared.lexemes.TokenKind.TheVariants.{Word, Number, Symbol}
use Rattle.hk_text.specs.declared.tokenizer.Token.{Token}
use Rattle.hk_text.specs.Bytes.{is_blank, is_word_start, is_word_byte, is_symbol_byte, is_symbol_pair}
use Rattle.hk_text.specs.Lexemes.{IsLexeme, IsLongest}
use Rattle.hk_text.specs.Lines.{lines, with_first}
use Rattle.hk_text.specs.Texts.{texts_of}
use Rattle.hk_text.specs.Tokens.{BeginsWith, Quietly, Splits, HasTexts}
use Rattle.hk_text.proofs.Existence.{longest_byte}
use Rattle.hk_text.proofs.Fronts.{list_all-middle}
use Rattle.hk_text.proofs.Spans.{text_of-BeginsWith}

-- a byte that is no blank and no line end
abbrev is_inside : ℕ → Bool
is_inside byte = not (is_blank byte) && not (byte == 10)

start_inside : (b : ℕ) → is_word_start b ≡ true → is_inside b ≡ true
start_inside b is = grind (arith, nat_tests)

word_inside : (b : ℕ) → is_word_byte b ≡ true → is_inside b ≡ true
word_inside b is = grind (arith, nat_tests)

digit_inside : (b : ℕ) → is_ascii_digit b ≡ true → is_inside b ≡ true
digit_inside b is = grind (arith, nat_tests)

symbol_inside : (b : ℕ) → is_symbol_byte b ≡ true → is_inside b ≡ true
symbol_inside b is = grind (arith, nat_tests)

first_inside : (b c : ℕ) → is_symbol_pair b c ≡ true → is_inside b ≡ true
first_inside b c is = grind (arith, nat_tests)

second_inside : (b c : ℕ) → is_symbol_pair b c ≡ true → is_inside c ≡ true
second_inside b c is = grind (arith, nat_tests)

-- where one test follows from another, it does so for each byte
each_follows : (p q : ℕ → Bool) → ((b : ℕ) → p b ≡ true → q b ≡ true) → (bytes : List ℕ) → list_all p bytes ≡ true → list_all q bytes ≡ true
each_follows p q follows [] all = refl
each_follows p q follows (b ∷ bytes) all = let parts = and_parts (p b) (list_all p bytes) all in and_from (q b) (list_all q bytes) (follows b parts.0) (each_follows p q follows bytes parts.1)

-- the text of a token has no blank and no line end in it
lexeme_inside : (kind : TokenKind) (text : List ℕ) → IsLexeme kind text → list_all is_inside text ≡ true
lexeme_inside Word [] is = absurd is
lexeme_inside Number [] is = absurd is
lexeme_inside Symbol [] is = absurd is
lexeme_inside Word (b ∷ text) is = and_from (is_inside b) _ (start_inside b is.0) (each_follows is_word_byte is_inside word_inside text is.1)
lexeme_inside Number (b ∷ text) is = and_from (is_inside b) _ (digit_inside b is.0) (each_follows is_ascii_digit is_inside digit_inside text is.1)
lexeme_inside Symbol (b ∷ []) is = and_from (is_inside b) _ (symbol_inside b is) refl
lexeme_inside Symbol (b ∷ c ∷ []) is = and_from (is_inside b) _ (first_inside b c is) (and_from (is_inside c) _ (second_inside b c is) refl)
lexeme_inside Symbol (b ∷ c ∷ d ∷ text) is = absurd is

-- the text of a token has no line end in it
pub lexeme_stays : (kind : TokenKind) (text : List ℕ) → IsLexeme kind text → list_all (λ byte. not (byte == 10)) text ≡ true
lexeme_stays kind text is = each_follows is_inside (λ byte. not (byte == 10)) (λ b inside. (and_parts (not (is_blank b)) _ inside).1) text (lexeme_inside kind text is)

-- nothing is left, or a blank comes next: no token goes on here
abbrev pub Stops : List ℕ → Type 0
Stops [] = Unit {0}
Stops (byte ∷ rest) = is_blank byte ≡ true

not_blank : (b : ℕ) → is_inside b ≡ true → is_blank b ≡ false
not_blank b inside = grind (arith, nat_tests)

-- a token is the longest where it stops
pub longest_stopped : (kind : TokenKind) (text rest : List ℕ) → IsLexeme kind text → Stops rest → IsLongest kind text rest
longest_stopped kind text rest lexeme stops = record { lexeme = lexeme; longest = λ other more left is goes_on. ends other more rest left stops is (lexeme_inside other (text ++ more) goes_on) }
  where
    ends : (other : TokenKind) (more rest left : List ℕ) → Stops rest → rest ≡ more ++ left → list_all is_inside (text ++ more) ≡ true → more ≡ []
    ends other [] rest left stops is inside = refl
    ends other (b ∷ more) [] left stops is inside = cc
    ends other (b ∷ more) (c ∷ rest) left stops is inside =
        let same : c ≡ b = cc in
        let passes : is_blank b ≡ true = ap is_blank (sym same) ∙ stops in
        let fails : is_blank b ≡ false = not_blank b (list_all-middle is_inside text b more inside) in
        cc

-- the bytes begin with a token of this text, after blanks, and go on with `rest`
pub record BeginsText (bytes text rest : List ℕ) : Type 0 where
  pub kind : TokenKind
  pub gap : List ℕ
  pub parts : bytes ≡ gap ++ (text ++ rest)
  pub blank : IsTrue (list_all is_blank gap)
  pub longest : IsLongest kind text rest

-- the bytes are tokens of these texts, with blanks before them
pub data Spells : List ℕ → List (List ℕ) → Type 0 where
  spells_none : Spells [] []
  spells_next : {bytes text rest : List ℕ} {texts : List (List ℕ)} → BeginsText bytes text rest → Spells rest texts → Spells bytes (text ∷ texts)

-- a token that stops is one text more
pub spells_alone : (kind : TokenKind) (gap text rest : List ℕ) {texts : List (List ℕ)} → IsTrue (list_all is_blank gap) → IsLexeme kind text → Stops rest → Spells rest texts → Spells (gap ++ (text ++ rest)) (text ∷ texts)
spells_alone kind gap text rest blank lexeme stops more =
    spells_next (record { kind = kind; gap = gap; parts = refl; blank = blank; longest = longest_stopped kind text rest lexeme stops }) more

-- two symbols side by side that make no symbol of two bytes are two texts more
pub spells_beside : (first second : ℕ) (gap rest : List ℕ) {texts : List (List ℕ)} → IsTrue (list_all is_blank gap) → is_symbol_byte first ≡ true → is_symbol_byte second ≡ true → is_symbol_pair first second ≡ false → Stops rest → Spells rest texts
    → Spells (gap ++ (first ∷ second ∷ rest)) ((first ∷ []) ∷ (second ∷ []) ∷ texts)
spells_beside first second gap rest blank is also apart stops more =
    spells_next (record {
      kind = Symbol;
      gap = gap;
      parts = refl;
      blank = blank;
      longest = longest_byte first (second ∷ rest) is (λ next left begins. let same : second ≡ next = cc in ap (is_symbol_pair first) (sym same) ∙ apart);
    })
    (spells_alone Symbol [] (second ∷ []) rest refl also stops more)

-- tokens of bytes that stand at a place of the line, with these texts
record TokensAt (line : List ℕ) (place : ℕ) (bytes : List ℕ) (texts : List (List ℕ)) : Type 0 where
  tokens : List Token
  split : Splits Quietly place bytes tokens
  texts_are : texts_of line tokens ≡ texts

tokens_at : (line front : List ℕ) {bytes : List ℕ} {texts : List (List ℕ)} → line ≡ front ++ bytes → Spells bytes texts → TokensAt line (length front) bytes texts
tokens_at line front is spells_none = record { tokens = []; split = record { gap = []; comment = []; parts = refl; blank = refl; begins = tt }; texts_are = refl }
tokens_at line front is (spells_next {bytes = bytes} {text = text} {rest = rest} {texts = texts} next more) =
    let start = length front + length next.gap in
    let token : Token = record { kind = next.kind; start = start; end = start + length text } in
    let begins : BeginsWith (length front) bytes token rest = record { gap = next.gap; text = text; parts = next.parts; blank = next.blank; start = refl; end = refl; longest = next.longest } in
    let before = (front ++ next.gap) ++ text in
    let whole : line ≡ before ++ rest =
    is ∙ ap (λ xs. front ++ xs) next.parts ∙ sym (append_assoc front next.gap (text ++ rest)) ∙ sym (append_assoc (front ++ next.gap) text rest) in
    let at_end : length before ≡ token.end = omega (arith, length-append (front ++ next.gap) text, length-append front next.gap) in
    let others = tokens_at line before whole more in
    record {
      tokens = token ∷ others.tokens;
      split = (rest, begins, subst (λ (n : ℕ). Splits Quietly n rest others.tokens) at_end others.split);
      texts_are = ap (λ t. t ∷ texts_of line others.tokens) (text_of-BeginsWith line front bytes token rest is begins) ∙ ap (λ ts. text ∷ ts) others.texts_are;
    }

-- a line that is tokens of these texts has these texts
pub spells_texts : {line : List ℕ} {texts : List (List ℕ)} → Spells line texts → HasTexts line texts
spells_texts {line = line} {texts = texts} spells =
    let all = tokens_at line [] refl spells in
    record { tokens = all.tokens; split = all.split; texts_are = all.texts_are }

-- bytes with no line end in them, and a line end, are the first line
pub lines_next : (line rest : List ℕ) → list_all (λ byte. not (byte == 10)) line ≡ true → lines (line ++ (10 ∷ rest)) ≡ line ∷ lines rest
lines_next [] rest stay = refl
lines_next (b ∷ line) rest stay = let parts = and_parts (not (b == 10)) _ stay in by (b == 10) parts.0 (lines_next line rest parts.1)
  where
    by : (end : Bool) → not end ≡ true → lines (line ++ (10 ∷ rest)) ≡ line ∷ lines rest → cond end ([] ∷ lines (line ++ (10 ∷ rest))) (with_first b (lines (line ++ (10 ∷ rest)))) ≡ (b ∷ line) ∷ lines rest
    by true stays later = cc
    by false stays later = ap (with_first b) later
