-- A line has one reading: its tokens, or its tokens up to the first bad byte.
use Rattle.std.proofs.Common.{◌≡◌, ◌≢◌, ℕ, ◌+◌, true, false, ◌⊎◌, inl, inr, List, [], ◌∷◌, ◌++◌, length, refl, sym, ap, subst, ◌∙◌, arith}
use Rattle.std.specs.Char.{is_ascii_digit}
use Rattle.std.specs.List.{list_all}
use Rattle.std.proofs.lemmas.Bool.{and_parts}
use Rattle.std.proofs.lemmas.Bool.Decides.{nat_tests}
use Rattle.std.proofs.lemmas.List.{append-nil, append_cancel_left}
use Rattle.hk_text.specs.declared.lexemes.TokenKind.{TokenKind}
use Rattle.hk_text.specs.declared.lexemes.TokenKind.TheVariants.{Word, Number, Symbol}
use Rattle.hk_text.specs.declared.tokenizer.Token.{Token}
use Rattle.hk_text.specs.Bytes.{is_blank, hash, is_word_start, is_symbol_byte, is_symbol_pair}
use Rattle.hk_text.specs.Lexemes.{IsLexeme, IsLongest}
use Rattle.hk_text.specs.Tokens.{BeginsWith, IsComment, IsQuiet, IsStuck, Ending, Quietly, Badly, Ends, Splits, AreTokensOf, IsBadByte, HasTexts}
use Rattle.hk_text.specs.Texts.{texts_of}
use Rattle.hk_text.proofs.Lexing.{same_kind}

-- the bytes begin with no blank
abbrev NoBlankFirst : List ℕ → Type 0
NoBlankFirst [] = Unit {0}
NoBlankFirst (first ∷ more) = is_blank first ≡ false

-- blanks in front end in one place
same_gap : (xs ys us vs : List ℕ) → list_all is_blank xs ≡ true → list_all is_blank ys ≡ true → NoBlankFirst us → NoBlankFirst vs → xs ++ us ≡ ys ++ vs → (xs ≡ ys) × (us ≡ vs)
same_gap [] [] us vs x y a b is = (refl, is)
same_gap [] (y ∷ ys) [] vs x y' a b is = cc
same_gap [] (y ∷ ys) (c ∷ us) vs x y' a b is =
    let blank = (and_parts (is_blank y) (list_all is_blank ys) y').0 in
    let same : c ≡ y = cc in
    let fails : is_blank y ≡ false = ap is_blank (sym same) ∙ a in
    cc
same_gap (x ∷ xs) [] us [] x' y a b is = cc
same_gap (x ∷ xs) [] us (c ∷ vs) x' y a b is =
    let blank = (and_parts (is_blank x) (list_all is_blank xs) x').0 in
    let same : c ≡ x = cc in
    let fails : is_blank x ≡ false = ap is_blank (sym same) ∙ b in
    cc
same_gap (x ∷ xs) (y ∷ ys) us vs x' y' a b is =
    let same : x ≡ y = cc in
    let rest : xs ++ us ≡ ys ++ vs = cc in
    let both = same_gap xs ys us vs (and_parts (is_blank x) (list_all is_blank xs) x').1 (and_parts (is_blank y) (list_all is_blank ys) y').1 a b rest in
    let xs_is : xs ≡ ys = both.0 in
    (cc, both.1)

-- of two fronts of one list one goes on where the other ends
record GoesOn (xs ys us vs : List ℕ) : Type 0 where
  more : List ℕ
  longer : ys ≡ xs ++ more
  left : us ≡ more ++ vs

fronts : (xs ys us vs : List ℕ) → xs ++ us ≡ ys ++ vs → GoesOn xs ys us vs ⊎ GoesOn ys xs vs us
fronts [] ys us vs is = inl (record { more = ys; longer = refl; left = is })
fronts (x ∷ xs) [] us vs is = inr (record { more = x ∷ xs; longer = refl; left = sym is })
fronts (x ∷ xs) (y ∷ ys) us vs is =
    let same : x ≡ y = cc in
    let rest : xs ++ us ≡ ys ++ vs = cc in
    elim (fronts xs ys us vs rest) [
      | inl on ↦ let longer : ys ≡ xs ++ on.more = on.longer in inl (record { more = on.more; longer = cc; left = on.left })
      | inr on ↦ let longer : xs ≡ ys ++ on.more = on.longer in inr (record { more = on.more; longer = cc; left = on.left })
    ]

no_blank_word : (b : ℕ) → is_word_start b ≡ true → is_blank b ≡ false
no_blank_word b is = grind (arith, nat_tests)

no_blank_digit : (b : ℕ) → is_ascii_digit b ≡ true → is_blank b ≡ false
no_blank_digit b is = grind (arith, nat_tests)

no_blank_symbol : (b : ℕ) → is_symbol_byte b ≡ true → is_blank b ≡ false
no_blank_symbol b is = grind (arith, nat_tests)

no_blank_pair : (b c : ℕ) → is_symbol_pair b c ≡ true → is_blank b ≡ false
no_blank_pair b c is = grind (arith, nat_tests)

-- what is known of a lexeme's first byte
record IsFirst (text : List ℕ) : Type 0 where
  first : ℕ
  more : List ℕ
  parts : text ≡ first ∷ more
  no_blank : is_blank first ≡ false
  no_comment : first ≢ hash

no_hash : (kind : TokenKind) (more : List ℕ) → IsLexeme kind (hash ∷ more) → ⊥
no_hash Word more is = let bad : false ≡ true = is.0 in cc
no_hash Number more is = let bad : false ≡ true = is.0 in cc
no_hash Symbol [] is = let bad : false ≡ true = is in cc
no_hash Symbol (b ∷ []) is = let bad : false ≡ true = is in cc
no_hash Symbol (b ∷ c ∷ more) is = is

not_hash : (kind : TokenKind) (b : ℕ) (more : List ℕ) → IsLexeme kind (b ∷ more) → b ≢ hash
not_hash kind b more is same = no_hash kind more (subst (λ (x : ℕ). IsLexeme kind (x ∷ more)) same is)

lexeme_first : (kind : TokenKind) (text : List ℕ) → IsLexeme kind text → IsFirst text
lexeme_first Word [] is = absurd is
lexeme_first Number [] is = absurd is
lexeme_first Symbol [] is = absurd is
lexeme_first Word (b ∷ more) is = record { first = b; more = more; parts = refl; no_blank = no_blank_word b is.0; no_comment = not_hash Word b more is }
lexeme_first Number (b ∷ more) is = record { first = b; more = more; parts = refl; no_blank = no_blank_digit b is.0; no_comment = not_hash Number b more is }
lexeme_first Symbol (b ∷ []) is = record { first = b; more = []; parts = refl; no_blank = no_blank_symbol b is; no_comment = not_hash Symbol b [] is }
lexeme_first Symbol (b ∷ c ∷ []) is = record { first = b; more = c ∷ []; parts = refl; no_blank = no_blank_pair b c is; no_comment = not_hash Symbol b (c ∷ []) is }
lexeme_first Symbol (b ∷ c ∷ d ∷ more) is = absurd is

-- the bytes of a token begin with no blank
no_blank_token : (kind : TokenKind) (text rest : List ℕ) → IsLexeme kind text → NoBlankFirst (text ++ rest)
no_blank_token kind text rest is =
    let first = lexeme_first kind text is in
    subst (λ (xs : List ℕ). NoBlankFirst (xs ++ rest)) (sym first.parts) first.no_blank

no_blank_comment : (comment : List ℕ) → IsComment comment → NoBlankFirst comment
no_blank_comment [] is = tt
no_blank_comment (b ∷ more) is = ap is_blank is

-- the token that one front begins and the other goes on with is the same
same_longest : (j k : TokenKind) (xs ys us vs : List ℕ) → GoesOn xs ys us vs → IsLongest j xs us → IsLongest k ys vs → xs ≡ ys
same_longest j k xs ys us vs on x y =
    let more : on.more ≡ [] = x.longest k on.more vs on.left (subst (IsLexeme k) on.longer y.lexeme) in
    sym (on.longer ∙ ap (λ zs. xs ++ zs) more ∙ append-nil xs)

-- two tokens that one list begins with have one text
same_text : (j k : TokenKind) (xs ys us vs : List ℕ) → xs ++ us ≡ ys ++ vs → IsLongest j xs us → IsLongest k ys vs → xs ≡ ys
same_text j k xs ys us vs is x y =
    elim (fronts xs ys us vs is) [
      | inl on ↦ same_longest j k xs ys us vs on x y
      | inr on ↦ sym (same_longest k j ys xs vs us on y x)
    ]

-- one text is of one kind
kind_of_text : (j k : TokenKind) (text : List ℕ) → IsLexeme j text → IsLexeme k text → j ≡ k
kind_of_text Word k [] x y = absurd x
kind_of_text Number k [] x y = absurd x
kind_of_text Symbol k [] x y = absurd x
kind_of_text j k (b ∷ text) x y = same_kind j k b text text x y

abbrev made : TokenKind → ℕ → ℕ → Token
made kind start end = record { kind = kind; start = start; end = end }

same_token : (s t : Token) → s.kind ≡ t.kind → s.start ≡ t.start → s.end ≡ t.end → s ≡ t
same_token s t kind start end = ap (λ k. made k s.start s.end) kind ∙ ap (λ n. made t.kind n s.end) start ∙ ap (λ n. made t.kind t.start n) end

-- bytes begin with one token
pub same_begin : (place : ℕ) (bytes : List ℕ) (s t : Token) (us vs : List ℕ) → BeginsWith place bytes s us → BeginsWith place bytes t vs → (s ≡ t) × (us ≡ vs)
same_begin place bytes s t us vs x y =
    let gaps = same_gap x.gap y.gap (x.text ++ us) (y.text ++ vs) x.blank y.blank (no_blank_token s.kind x.text us x.longest.lexeme) (no_blank_token t.kind y.text vs y.longest.lexeme) (sym x.parts ∙ y.parts) in
    let text : x.text ≡ y.text = same_text s.kind t.kind x.text y.text us vs gaps.1 x.longest y.longest in
    let rest : us ≡ vs = append_cancel_left x.text us vs (gaps.1 ∙ ap (λ xs. xs ++ vs) (sym text)) in
    let kind : s.kind ≡ t.kind = kind_of_text s.kind t.kind x.text x.longest.lexeme (subst (IsLexeme t.kind) (sym text) y.longest.lexeme) in
    let start : s.start ≡ t.start = x.start ∙ ap (λ xs. place + length xs) gaps.0 ∙ sym y.start in
    let end : s.end ≡ t.end = omega (arith, x.end, y.end, start, ap length text) in
    (same_token s t kind start end, rest)

-- bytes that begin with a token are not quiet
begins_not_quiet : (place : ℕ) (bytes : List ℕ) (t : Token) (rest : List ℕ) → BeginsWith place bytes t rest → IsQuiet bytes → ⊥
begins_not_quiet place bytes t rest x y =
    let gaps = same_gap x.gap y.gap (x.text ++ rest) y.comment x.blank y.blank (no_blank_token t.kind x.text rest x.longest.lexeme) (no_blank_comment y.comment y.begins) (sym x.parts ∙ y.parts) in
    let first = lexeme_first t.kind x.text x.longest.lexeme in
    let is : first.first ∷ (first.more ++ rest) ≡ y.comment = ap (λ xs. xs ++ rest) (sym first.parts) ∙ gaps.1 in
    first.no_comment (subst IsComment (sym is) y.begins)

-- nor stuck
begins_not_stuck : (place : ℕ) (bytes : List ℕ) (t : Token) (rest : List ℕ) (column byte : ℕ) → BeginsWith place bytes t rest → IsStuck place bytes column byte → ⊥
begins_not_stuck place bytes t rest column byte x y =
    let gaps = same_gap x.gap y.gap (x.text ++ rest) (byte ∷ y.rest) x.blank y.blank (no_blank_token t.kind x.text rest x.longest.lexeme) y.no_blank (sym x.parts ∙ y.parts) in
    y.no_token t.kind x.text rest (sym gaps.1) x.longest.lexeme

-- quiet bytes are not stuck
quiet_not_stuck : (place : ℕ) (bytes : List ℕ) (column byte : ℕ) → IsQuiet bytes → IsStuck place bytes column byte → ⊥
quiet_not_stuck place bytes column byte x y =
    let gaps = same_gap x.gap y.gap x.comment (byte ∷ y.rest) x.blank y.blank (no_blank_comment x.comment x.begins) y.no_blank (sym x.parts ∙ y.parts) in
    y.no_comment (subst IsComment gaps.1 x.begins)

-- bytes are stuck at one byte
same_stuck : (place : ℕ) (bytes : List ℕ) (c d a b : ℕ) → IsStuck place bytes c a → IsStuck place bytes d b → Badly c a ≡ Badly d b
same_stuck place bytes c d a b x y =
    let gaps = same_gap x.gap y.gap (a ∷ x.rest) (b ∷ y.rest) x.blank y.blank x.no_blank y.no_blank (sym x.parts ∙ y.parts) in
    let column : c ≡ d = x.counted ∙ ap (λ xs. place + length xs + 1) gaps.0 ∙ sym y.counted in
    let byte : a ≡ b = let heads : a ∷ x.rest ≡ b ∷ y.rest = gaps.1 in cc in
    ap (λ n. Badly n a) column ∙ ap (Badly d) byte

same_ending : (e f : Ending) (place : ℕ) (bytes : List ℕ) → Ends e place bytes → Ends f place bytes → e ≡ f
same_ending Quietly Quietly place bytes x y = refl
same_ending Quietly (Badly d b) place bytes x y = absurd (quiet_not_stuck place bytes d b x y)
same_ending (Badly c a) Quietly place bytes x y = absurd (quiet_not_stuck place bytes c a y x)
same_ending (Badly c a) (Badly d b) place bytes x y = same_stuck place bytes c d a b x y

begins_not_end : (e : Ending) (place : ℕ) (bytes : List ℕ) (t : Token) (rest : List ℕ) → BeginsWith place bytes t rest → Ends e place bytes → ⊥
begins_not_end Quietly place bytes t rest x y = begins_not_quiet place bytes t rest x y
begins_not_end (Badly c a) place bytes t rest x y = begins_not_stuck place bytes t rest c a x y

-- bytes fall into tokens in one way, and end in one way
pub same_splits : (e f : Ending) (place : ℕ) (bytes : List ℕ) (ss ts : List Token) → Splits e place bytes ss → Splits f place bytes ts → (e ≡ f) × (ss ≡ ts)
same_splits e f place bytes [] [] x y = (same_ending e f place bytes x y, refl)
same_splits e f place bytes [] (t ∷ ts) x (rest, begins, more) = absurd (begins_not_end e place bytes t rest begins x)
same_splits e f place bytes (s ∷ ss) [] (rest, begins, more) y = absurd (begins_not_end f place bytes s rest begins y)
same_splits e f place bytes (s ∷ ss) (t ∷ ts) (us, x, xs) (vs, y, ys) =
    let one = same_begin place bytes s t us vs x y in
    let on : Splits f s.end us ts = subst (λ (n : ℕ). Splits f n us ts) (ap (λ (u : Token). u.end) (sym one.0)) (subst (λ (r : List ℕ). Splits f t.end r ts) (sym one.1) ys) in
    let more = same_splits e f s.end us ss ts xs on in
    (more.0, ap (λ u. u ∷ ss) one.0 ∙ ap (λ us. t ∷ us) more.1)

-- a line has one list of tokens
pub same_tokens : (line : List ℕ) (ss ts : List Token) → AreTokensOf line ss → AreTokensOf line ts → ss ≡ ts
same_tokens line ss ts x y = (same_splits Quietly Quietly 0 line ss ts x y).1

-- a line has one first bad byte
pub same_bad_byte : (line : List ℕ) (c d a b : ℕ) → IsBadByte line c a → IsBadByte line d b → (c ≡ d) × (a ≡ b)
same_bad_byte line c d a b x y =
    let same : Badly c a ≡ Badly d b = (same_splits (Badly c a) (Badly d b) 0 line x.before y.before x.splits y.splits).0 in
    (cc, cc)

-- a line with tokens has no bad byte
pub tokens_no_bad_byte : (line : List ℕ) (ss : List Token) (column byte : ℕ) → AreTokensOf line ss → IsBadByte line column byte → ⊥
tokens_no_bad_byte line ss column byte x y =
    let same : Quietly ≡ Badly column byte = (same_splits Quietly (Badly column byte) 0 line ss y.before x y.splits).0 in
    cc

-- a line has one list of texts
pub same_texts : {line : List ℕ} {a b : List (List ℕ)} → HasTexts line a → HasTexts line b → a ≡ b
same_texts {line = line} x y = sym x.texts_are ∙ ap (texts_of line) (same_tokens line x.tokens y.tokens x.split y.split) ∙ y.texts_are

-- a line with a bad byte has no texts
pub bad_byte_no_texts : {line : List ℕ} {column byte : ℕ} {texts : List (List ℕ)} → IsBadByte line column byte → HasTexts line texts → ⊥
bad_byte_no_texts {line = line} {column = column} {byte = byte} bad has = tokens_no_bad_byte line has.tokens column byte has.split bad
