-- Where the tokens of a line lie in it.
use Rattle.std.proofs.Common.{◌≡◌, ℕ, ◌+◌, ◌-◌, ◌<◌, ◌≤◌, List, [], ◌∷◌, ◌++◌, length, take, drop, sym, ap, subst, ◌∙◌, append_assoc, arith, length-append}
use Rattle.std.specs.List.{All}
use Rattle.std.proofs.lemmas.List.{drop_at, take_at}
use Rattle.std.proofs.lemmas.List.Elements.{All-nil, All-cons}
use Rattle.hk_text.specs.declared.lexemes.TokenKind.{TokenKind}
use Rattle.hk_text.specs.declared.lexemes.TokenKind.TheVariants.{Word, Number, Symbol}
use Rattle.hk_text.specs.declared.tokenizer.Token.{Token}
use Rattle.hk_text.specs.Lexemes.{IsLexeme}
use Rattle.hk_text.specs.Texts.{IsWithin, text_of}
use Rattle.hk_text.specs.Tokens.{Ending, BeginsWith, Splits}

-- a lexeme has a byte
lexeme_some : (kind : TokenKind) (text : List ℕ) → IsLexeme kind text → 0 < length text
lexeme_some Word [] is = absurd is
lexeme_some Number [] is = absurd is
lexeme_some Symbol [] is = absurd is
lexeme_some Word (b ∷ text) is = omega arith
lexeme_some Number (b ∷ text) is = omega arith
lexeme_some Symbol (b ∷ text) is = omega arith

-- how the bytes before, in and after a token count
pub record Counts (place size : ℕ) (token : Token) (left : ℕ) : Type 0 where
  pub from : place ≤ token.start
  pub some : token.start < token.end
  pub all : token.end + left ≡ place + size

pub BeginsWith-Counts : (place : ℕ) (bytes : List ℕ) (token : Token) (rest : List ℕ) → BeginsWith place bytes token rest → Counts place (length bytes) token (length rest)
BeginsWith-Counts place bytes token rest begins =
    let some = lexeme_some token.kind begins.text begins.longest.lexeme in
    let gap_and_more : length bytes ≡ length begins.gap + length (begins.text ++ rest) = ap length begins.parts ∙ length-append begins.gap (begins.text ++ rest) in
    let text_and_rest = length-append begins.text rest in
    record {
      from = omega (arith, begins.start);
      some = omega (arith, begins.end, some);
      all = omega (arith, begins.start, begins.end, gap_and_more, text_and_rest);
    }

-- the tokens of bytes that end where their line ends lie in that line
pub Splits-within : (line : List ℕ) (ending : Ending) (place : ℕ) (bytes : List ℕ) (tokens : List Token) → place + length bytes ≡ length line → Splits ending place bytes tokens → All (IsWithin line) tokens
Splits-within line ending place bytes [] counted splits = All-nil (IsWithin line)
Splits-within line ending place bytes (token ∷ more) counted (rest, begins, splits) =
    let counts = BeginsWith-Counts place bytes token rest begins in
    All-cons (IsWithin line) token more
    (record { some = counts.some; inside = omega (arith, counts.all) })
    (Splits-within line ending token.end rest more (omega (arith, counts.all)) splits)

-- the text of the token that comes first is the slice of its span
pub text_of-BeginsWith : (line front bytes : List ℕ) (token : Token) (rest : List ℕ) → line ≡ front ++ bytes → (begins : BeginsWith (length front) bytes token rest) → text_of line token ≡ begins.text
text_of-BeginsWith line front bytes token rest is begins =
    let before = front ++ begins.gap in
    let whole : line ≡ before ++ (begins.text ++ rest) =
    is ∙ ap (λ xs. front ++ xs) begins.parts ∙ sym (append_assoc front begins.gap (begins.text ++ rest)) in
    let at_start : length before ≡ token.start = length-append front begins.gap ∙ sym begins.start in
    let size : length begins.text ≡ token.end - token.start = omega (arith, begins.end) in
    ap (λ xs. take (token.end - token.start) (drop token.start xs)) whole
    ∙ ap (λ xs. take (token.end - token.start) xs) (drop_at before (begins.text ++ rest) token.start at_start)
    ∙ take_at begins.text rest (token.end - token.start) size

-- the slice of each token's span is a lexeme of its kind
pub Splits-lexemes : (line front : List ℕ) (ending : Ending) (bytes : List ℕ) (tokens : List Token) → line ≡ front ++ bytes → Splits ending (length front) bytes tokens → All (λ token. IsLexeme token.kind (text_of line token)) tokens
Splits-lexemes line front ending bytes [] is splits = All-nil (λ token. IsLexeme token.kind (text_of line token))
Splits-lexemes line front ending bytes (token ∷ more) is (rest, begins, splits) =
    let text = text_of-BeginsWith line front bytes token rest is begins in
    let before = (front ++ begins.gap) ++ begins.text in
    let whole : line ≡ before ++ rest =
    is ∙ ap (λ xs. front ++ xs) begins.parts ∙ sym (append_assoc front begins.gap (begins.text ++ rest)) ∙ sym (append_assoc (front ++ begins.gap) begins.text rest) in
    let at_end : token.end ≡ length before =
    omega (arith, begins.start, begins.end, length-append (front ++ begins.gap) begins.text, length-append front begins.gap) in
    All-cons (λ token. IsLexeme token.kind (text_of line token)) token more
    (subst (IsLexeme token.kind) (sym text) begins.longest.lexeme)
    (Splits-lexemes line before ending rest more whole (subst (λ (n : ℕ). Splits ending n rest more) at_end splits))
