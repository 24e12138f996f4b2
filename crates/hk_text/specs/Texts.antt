-- The bytes of a token.
use Rattle.std.specs.Prelude.{List, ℕ, map, ◌≤◌, ◌<◌, length, slice_range}
use Rattle.hk_text.specs.declared.tokenizer.Token.{Token}

-- the bytes of a token of the line
abbrev pub text_of : List ℕ → Token → List ℕ
text_of line token = slice_range line token.start token.end

-- the texts of tokens of the line
abbrev pub texts_of : List ℕ → List Token → List (List ℕ)
texts_of line tokens = map (text_of line) tokens

-- the token has at least one byte, and all of them in the line
pub record IsWithin (line : List ℕ) (token : Token) : Type 0 where
  pub some : token.start < token.end
  pub inside : token.end ≤ length line
