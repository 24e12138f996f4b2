-- The texts that tokens have.
use Rattle.std.specs.Prelude.{◌≡◌, List, [], ◌∷◌, ◌++◌, ℕ, IsTrue}
use Rattle.std.specs.Char.{is_ascii_digit}
use Rattle.std.specs.List.{list_all}
use Rattle.hk_text.specs.declared.lexemes.TokenKind.{TokenKind}
use Rattle.hk_text.specs.declared.lexemes.TokenKind.TheVariants.{Word, Number, Symbol}
use Rattle.hk_text.specs.Bytes.{is_word_start, is_word_byte, is_symbol_byte, is_symbol_pair}

-- a letter or `_`, and then letters, digits and `_`
abbrev pub IsWord : List ℕ → Type 0
IsWord [] = ⊥
IsWord (first ∷ more) = IsTrue (is_word_start first) × IsTrue (list_all is_word_byte more)

-- digits, at least one
abbrev pub IsDigits : List ℕ → Type 0
IsDigits [] = ⊥
IsDigits (first ∷ more) = IsTrue (is_ascii_digit first) × IsTrue (list_all is_ascii_digit more)

-- a symbol, of one byte or of two
abbrev pub IsSymbol : List ℕ → Type 0
IsSymbol [] = ⊥
IsSymbol (byte ∷ []) = IsTrue (is_symbol_byte byte)
IsSymbol (first ∷ second ∷ []) = IsTrue (is_symbol_pair first second)
IsSymbol (first ∷ second ∷ third ∷ more) = ⊥

-- the text of a token of this kind
abbrev pub IsLexeme : TokenKind → List ℕ → Type 0
IsLexeme Word text = IsWord text
IsLexeme Number text = IsDigits text
IsLexeme Symbol text = IsSymbol text

-- the text is that of a token, and it goes on as no token into the bytes after it
pub record IsLongest (kind : TokenKind) (text after : List ℕ) : Type 0 where
  pub lexeme : IsLexeme kind text
  pub longest : (other : TokenKind) (more rest : List ℕ) → after ≡ more ++ rest → IsLexeme other (text ++ more) → more ≡ []

-- no token begins where these bytes begin
abbrev pub BeginsNoToken : List ℕ → Type 0
BeginsNoToken bytes = (kind : TokenKind) (text rest : List ℕ) → bytes ≡ text ++ rest → IsLexeme kind text → ⊥
