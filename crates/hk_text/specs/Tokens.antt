-- How a line falls into tokens.
use Rattle.std.specs.Prelude.{◌≡◌, ◌≢◌, List, [], ◌∷◌, ◌++◌, ℕ, ◌+◌, ◌≤◌, ◌<◌, false, length, IsTrue}
use Rattle.std.specs.List.{list_all}
use Rattle.hk_text.specs.declared.tokenizer.Token.{Token}
use Rattle.hk_text.specs.declared.tokenizer.TextFault.{TextFault}
use Rattle.hk_text.specs.declared.tokenizer.TextFault.TheVariants.{NotAscii, BadByte, Memory}
use Rattle.hk_text.specs.Bytes.{is_blank, hash}
use Rattle.hk_text.specs.Lexemes.{IsLexeme, IsLongest, BeginsNoToken}
use Rattle.hk_text.specs.Texts.{IsWithin, text_of, texts_of}

-- bytes that stand at `place` in their line begin with this token, after blanks, and go on with `rest`
pub record BeginsWith (place : ℕ) (bytes : List ℕ) (token : Token) (rest : List ℕ) : Type 0 where
  pub gap : List ℕ
  pub text : List ℕ
  pub parts : bytes ≡ gap ++ (text ++ rest)
  pub blank : IsTrue (list_all is_blank gap)
  pub start : token.start ≡ place + length gap
  pub end : token.end ≡ token.start + length text
  pub longest : IsLongest token.kind text rest

-- no bytes, or a comment: `#` and whatever follows it
abbrev pub IsComment : List ℕ → Type 0
IsComment [] = Unit {0}
IsComment (first ∷ more) = first ≡ hash

-- blanks, and maybe a comment after them
pub record IsQuiet (bytes : List ℕ) : Type 0 where
  pub gap : List ℕ
  pub comment : List ℕ
  pub parts : bytes ≡ gap ++ comment
  pub blank : IsTrue (list_all is_blank gap)
  pub begins : IsComment comment

-- after blanks comes a byte, in this column of the line, that is no blank and begins no token and no comment
pub record IsStuck (place : ℕ) (bytes : List ℕ) (column byte : ℕ) : Type 0 where
  pub gap : List ℕ
  pub rest : List ℕ
  pub parts : bytes ≡ gap ++ (byte ∷ rest)
  pub blank : IsTrue (list_all is_blank gap)
  pub counted : column ≡ place + length gap + 1
  pub no_blank : is_blank byte ≡ false
  pub no_comment : byte ≢ hash
  pub no_token : BeginsNoToken (byte ∷ rest)

-- how a line ends after its tokens: quietly, or in a bad byte in this column, counted from 1
pub data Ending : Type 0 where
  Quietly : Ending
  Badly : (column byte : ℕ) → Ending

-- the bytes left after all tokens end in this way
abbrev pub Ends : Ending → ℕ → List ℕ → Type 0
Ends Quietly place bytes = IsQuiet bytes
Ends (Badly column byte) place bytes = IsStuck place bytes column byte

-- bytes that stand at `place` in their line fall into these tokens, and then end in this way
abbrev pub Splits : Ending → ℕ → List ℕ → List Token → Type 0
Splits ending place bytes [] = Ends ending place bytes
Splits ending place bytes (token ∷ more) = (rest : List ℕ) × BeginsWith place bytes token rest × Splits ending token.end rest more

-- the tokens of the line, each the longest where it begins; all else is blank or in a comment
abbrev pub AreTokensOf : List ℕ → List Token → Type 0
AreTokensOf line tokens = Splits Quietly 0 line tokens

-- the first byte of the line that no token, blank or comment takes is this one, in this column
pub record IsBadByte (line : List ℕ) (column byte : ℕ) : Type 0 where
  pub before : List Token
  pub splits : Splits (Badly column byte) 0 line before

-- the fault is that of the first bad byte of the line, or want of memory
abbrev pub IsFaultOf : List ℕ → TextFault → Type 0
IsFaultOf line (NotAscii column) = (byte : ℕ) × IsBadByte line column byte × (128 ≤ byte)
IsFaultOf line (BadByte column) = (byte : ℕ) × IsBadByte line column byte × (byte < 128)
IsFaultOf line Memory = Unit {0}

-- the token lies in the line, and its bytes there are a text of its kind
pub record IsTokenIn (line : List ℕ) (token : Token) : Type 0 where
  pub within : IsWithin line token
  pub lexeme : IsLexeme token.kind (text_of line token)

-- the bytes of the line's tokens, one after the other; all else in the line is blank or a comment
pub record HasTexts (line : List ℕ) (texts : List (List ℕ)) : Type 0 where
  pub tokens : List Token
  pub split : AreTokensOf line tokens
  pub texts_are : texts_of line tokens ≡ texts
