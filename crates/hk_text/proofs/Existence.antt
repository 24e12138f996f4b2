-- Each line has a reading.
use Rattle.std.proofs.Common.{◌≡◌, ◌≢◌, ℕ, zero, suc, ◌+◌, ◌≤◌, ◌==◌, Bool, true, false, ◌⊎◌, inl, inr, List, [], ◌∷◌, ◌++◌, length, take, drop, refl, sym, ap, subst, ◌∙◌, arith, take-append-drop}
use Rattle.std.specs.Char.{is_ascii_digit}
use Rattle.std.specs.List.{list_all, prefix_len}
use Rattle.std.proofs.lemmas.Bool.Decides.{nat_tests}
use Rattle.hk_text.specs.declared.lexemes.TokenKind.{TokenKind}
use Rattle.hk_text.specs.declared.lexemes.TokenKind.TheVariants.{Word, Number, Symbol}
use Rattle.hk_text.specs.declared.tokenizer.Token.{Token}
use Rattle.hk_text.specs.Bytes.{is_blank, hash, is_word_start, is_word_byte, is_symbol_byte, is_symbol_pair}
use Rattle.hk_text.specs.Lexemes.{IsLexeme, IsSymbol, IsLongest, BeginsNoToken}
use Rattle.hk_text.specs.Tokens.{BeginsWith, Ending, Quietly, Badly, Ends, Splits, AreTokensOf, IsBadByte}
use Rattle.hk_text.proofs.Fronts.{list_all-front, after_front}
use Rattle.hk_text.proofs.Lexing.{same_kind, longest_word, longest_number}
use Rattle.hk_text.proofs.Spans.{BeginsWith-Counts}

-- a test passes or fails
passes_or_fails : (b : Bool) → (b ≡ true) ⊎ (b ≡ false)
passes_or_fails true = inl refl
passes_or_fails false = inr refl

-- the longest token that bytes begin with, if they begin with any
record Longest (bytes : List ℕ) : Type 0 where
  kind : TokenKind
  text : List ℕ
  rest : List ℕ
  parts : bytes ≡ text ++ rest
  longest : IsLongest kind text rest

-- a symbol of two bytes is no part of a longer token
longest_pair : (b c : ℕ) (rest : List ℕ) → is_symbol_pair b c ≡ true → IsLongest Symbol (b ∷ c ∷ []) rest
longest_pair b c rest pair = record {
  lexeme = pair;
  longest = λ other more left is goes_on.
      let same = same_kind other Symbol b (c ∷ more) (c ∷ []) goes_on pair in
      ends more (subst (λ k. IsLexeme k (b ∷ c ∷ more)) same goes_on);
}
  where
    ends : (more : List ℕ) → IsSymbol (b ∷ c ∷ more) → more ≡ []
    ends [] is = refl
    ends (d ∷ more) is = absurd is

-- a symbol of one byte is the longest where the next byte makes no other with it
pub longest_byte : (b : ℕ) (rest : List ℕ) → is_symbol_byte b ≡ true → ((c : ℕ) (more : List ℕ) → rest ≡ c ∷ more → is_symbol_pair b c ≡ false) → IsLongest Symbol (b ∷ []) rest
longest_byte b rest byte no_pair = record {
  lexeme = byte;
  longest = λ other more left is goes_on.
      let same = same_kind other Symbol b more [] goes_on byte in
      ends no_pair more left is (subst (λ k. IsLexeme k (b ∷ more)) same goes_on);
}
  where
    ends : ((c : ℕ) (more : List ℕ) → rest ≡ c ∷ more → is_symbol_pair b c ≡ false) → (more left : List ℕ) → rest ≡ more ++ left → IsSymbol (b ∷ more) → more ≡ []
    ends no_pair [] left is symbol = refl
    ends no_pair (c ∷ []) left is symbol = let fails : is_symbol_pair b c ≡ false = no_pair c left is in cc
    ends no_pair (c ∷ d ∷ more) left is symbol = absurd symbol

-- a byte that begins none of the three kinds begins no token
no_token : (b : ℕ) (rest : List ℕ) → is_word_start b ≡ false → is_ascii_digit b ≡ false → is_symbol_byte b ≡ false → ((c : ℕ) (more : List ℕ) → rest ≡ c ∷ more → is_symbol_pair b c ≡ false) → BeginsNoToken (b ∷ rest)
no_token b rest word digit byte no_pair Word [] left is lexeme = absurd lexeme
no_token b rest word digit byte no_pair Number [] left is lexeme = absurd lexeme
no_token b rest word digit byte no_pair Symbol [] left is lexeme = absurd lexeme
no_token b rest word digit byte no_pair Word (c ∷ text) left is lexeme =
    let same : b ≡ c = cc in
    let start : is_word_start b ≡ true = ap is_word_start same ∙ lexeme.0 in
    cc
no_token b rest word digit byte no_pair Number (c ∷ text) left is lexeme =
    let same : b ≡ c = cc in
    let start : is_ascii_digit b ≡ true = ap is_ascii_digit same ∙ lexeme.0 in
    cc
no_token b rest word digit byte no_pair Symbol (c ∷ []) left is lexeme =
    let same : b ≡ c = cc in
    let start : is_symbol_byte b ≡ true = ap is_symbol_byte same ∙ lexeme in
    cc
no_token b rest word digit byte no_pair Symbol (c ∷ d ∷ []) left is lexeme =
    let same : b ≡ c = cc in
    let after : rest ≡ d ∷ left = cc in
    let start : is_symbol_pair b d ≡ true = ap (λ x. is_symbol_pair x d) same ∙ lexeme in
    let fails : is_symbol_pair b d ≡ false = no_pair d left after in
    cc
no_token b rest word digit byte no_pair Symbol (c ∷ d ∷ e ∷ text) left is lexeme = absurd lexeme

-- bytes begin with a symbol of two bytes, or the first two make none
pair_or_none : (b : ℕ) (rest : List ℕ) → Longest (b ∷ rest) ⊎ ((c : ℕ) (more : List ℕ) → rest ≡ c ∷ more → is_symbol_pair b c ≡ false)
pair_or_none b [] = inr (λ c more is. cc)
pair_or_none b (d ∷ rest) = elim (passes_or_fails (is_symbol_pair b d)) [
  | inl pair ↦ inl (record { kind = Symbol; text = b ∷ d ∷ []; rest = rest; parts = refl; longest = longest_pair b d rest pair })
  | inr none ↦ inr (λ c more is. let same : d ≡ c = cc in ap (is_symbol_pair b) (sym same) ∙ none)
]

-- bytes begin with a longest token, or with none
longest_or_none : (b : ℕ) (rest : List ℕ) → Longest (b ∷ rest) ⊎ BeginsNoToken (b ∷ rest)
longest_or_none b rest = elim (passes_or_fails (is_word_start b)) [
  | inl word ↦ inl (record { kind = Word; text = b ∷ take (prefix_len is_word_byte rest) rest; rest = drop (prefix_len is_word_byte rest) rest; parts = ap (λ xs. b ∷ xs) (sym (take-append-drop (prefix_len is_word_byte rest) rest)); longest = longest_word b rest word })
  | inr no_word ↦ elim (passes_or_fails (is_ascii_digit b)) [
    | inl digit ↦ inl (record { kind = Number; text = b ∷ take (prefix_len is_ascii_digit rest) rest; rest = drop (prefix_len is_ascii_digit rest) rest; parts = ap (λ xs. b ∷ xs) (sym (take-append-drop (prefix_len is_ascii_digit rest) rest)); longest = longest_number b rest digit })
    | inr no_digit ↦ elim (pair_or_none b rest) [
      | inl longest ↦ inl longest
      | inr no_pair ↦ elim (passes_or_fails (is_symbol_byte b)) [
        | inl byte ↦ inl (record { kind = Symbol; text = b ∷ []; rest = rest; parts = refl; longest = longest_byte b rest byte no_pair })
        | inr no_byte ↦ inr (no_token b rest no_word no_digit no_byte no_pair)
      ]
    ]
  ]
]

-- what comes first in the bytes: an end or a token
record Start (place : ℕ) (bytes : List ℕ) : Type 0 where
  token : Token
  rest : List ℕ
  begins : BeginsWith place bytes token rest

record Stop (place : ℕ) (bytes : List ℕ) : Type 0 where
  ending : Ending
  ends : Ends ending place bytes

-- after blanks, the bytes end or go on with a token
stop_or_start : (place : ℕ) (bytes gap left : List ℕ) → bytes ≡ gap ++ left → list_all is_blank gap ≡ true → ((b : ℕ) (rest : List ℕ) → left ≡ b ∷ rest → is_blank b ≡ false) → Stop place bytes ⊎ Start place bytes
stop_or_start place bytes gap [] is blank no_blank = inl (record { ending = Quietly; ends = record { gap = gap; comment = []; parts = is; blank = blank; begins = tt } })
stop_or_start place bytes gap (b ∷ rest) is blank no_blank = elim (passes_or_fails (b == hash)) [
  | inl comment ↦ inl (record { ending = Quietly; ends = record { gap = gap; comment = b ∷ rest; parts = is; blank = blank; begins = grind (arith, nat_tests) } })
  | inr no_comment ↦ elim (longest_or_none b rest) [
    | inl l ↦ inr (record {
      token = record { kind = l.kind; start = place + length gap; end = place + length gap + length l.text };
      rest = l.rest;
      begins = record { gap = gap; text = l.text; parts = is ∙ ap (λ xs. gap ++ xs) l.parts; blank = blank; start = refl; end = refl; longest = l.longest };
    })
    | inr none ↦ inl (record {
      ending = Badly (place + length gap + 1) b;
      ends = record { gap = gap; rest = rest; parts = is; blank = blank; counted = refl; no_blank = no_blank b rest refl; no_comment = (let apart : b ≢ hash = grind (arith, nat_tests) in apart); no_token = none };
    })
  ]
]

-- bytes end or go on with a token
stops_or_starts : (place : ℕ) (bytes : List ℕ) → Stop place bytes ⊎ Start place bytes
stops_or_starts place bytes =
    let size = prefix_len is_blank bytes in
    stop_or_start place bytes (take size bytes) (drop size bytes) (sym (take-append-drop size bytes)) (list_all-front is_blank bytes) (after_front is_blank bytes)

-- how bytes fall into tokens and end
record Reading (place : ℕ) (bytes : List ℕ) : Type 0 where
  ending : Ending
  tokens : List Token
  splits : Splits ending place bytes tokens

stopped : (place : ℕ) (bytes : List ℕ) → Stop place bytes → Reading place bytes
stopped place bytes stop = record { ending = stop.ending; tokens = []; splits = stop.ends }

-- bytes fall into tokens and end
a_reading : (most place : ℕ) (bytes : List ℕ) → length bytes ≤ most → Reading place bytes
a_reading zero place bytes fits = elim (stops_or_starts place bytes) [
  | inl stop ↦ stopped place bytes stop
  | inr start ↦ let counts = BeginsWith-Counts place bytes start.token start.rest start.begins in absurd (omega (arith, counts.from, counts.some, counts.all))
]
a_reading (suc most) place bytes fits = elim (stops_or_starts place bytes) [
  | inl stop ↦ stopped place bytes stop
  | inr start ↦
      let counts = BeginsWith-Counts place bytes start.token start.rest start.begins in
      let more = a_reading most start.token.end start.rest (omega (arith, counts.from, counts.some, counts.all)) in
      record { ending = more.ending; tokens = start.token ∷ more.tokens; splits = (start.rest, start.begins, more.splits) }
]

-- a line has tokens or a first bad byte
pub tokens_or_bad_byte : (line : List ℕ) → ((found : List Token) × AreTokensOf line found) ⊎ ((column : ℕ) × (byte : ℕ) × IsBadByte line column byte)
tokens_or_bad_byte line = let reading = a_reading (length line) 0 line (omega arith) in by reading.ending reading.tokens reading.splits
  where
    by : (ending : Ending) (found : List Token) → Splits ending 0 line found → ((found : List Token) × AreTokensOf line found) ⊎ ((column : ℕ) × (byte : ℕ) × IsBadByte line column byte)
    by Quietly found splits = inl (found, splits)
    by (Badly column byte) found splits = inr (column, byte, record { before = found; splits = splits })
