-- The pieces that are printed are tokens: words, digits and symbols.
use Rattle.std.proofs.Common.{◌≡◌, ℕ, ℤ, pos, negsuc, zero, suc, Bool, true, false, Option, None, slice_get, List, [], ◌∷◌, ◌++◌, codes, map, refl, arith}
use Rattle.std.specs.Fmt.{decimal}
use Rattle.std.specs.List.{list_all, flat_map}
use Rattle.std.proofs.lemmas.Bool.{and_parts, and_from, both_ways}
use Rattle.std.proofs.lemmas.Bool.Decides.{nat_tests}
use Rattle.hk_spec.specs.Names.{is_word, starts_word, goes_on_word, is_name, is_free_name}
use Rattle.hk_text.specs.Bytes.{is_word_start, is_word_byte, is_symbol_byte, is_symbol_pair}
use Rattle.hk_text.specs.Lexemes.{IsWord, IsLexeme}
use Rattle.hk_text.specs.Sets.{members}
use Rattle.hk_text.specs.declared.lexemes.TokenKind.{TokenKind}
use Rattle.hk_text.specs.declared.lexemes.TokenKind.TheVariants.{Word, Number, Symbol}
use Rattle.hk_text.proofs.Decimals.{decimal_digits}
use Rattle.hk_print.specs.Expressions.{name_at, operation, call_of_two, membership}
use Rattle.hk_print.specs.Pieces.{piece, around, signed_pieces, braced, literal_pieces}

-- each element of a list is one of these
abbrev pub Each : {X : Type 0} → (X → Type 0) → List X → Type 0
Each P [] = Unit {0}
Each P (x ∷ xs) = P x × Each P xs

-- each element of both lists
pub each_append : {X : Type 0} (P : X → Type 0) (xs ys : List X) → Each P xs → Each P ys → Each P (xs ++ ys)
each_append P [] ys left right = right
each_append P (x ∷ xs) ys (first, left) right = (first, each_append P xs ys left right)

-- each element that is made of another
pub each_map : {X Y : Type 0} (P : X → Type 0) (Q : Y → Type 0) (f : X → Y) → ((x : X) → P x → Q (f x)) → (xs : List X) → Each P xs → Each Q (map f xs)
each_map P Q f follows [] each = tt
each_map P Q f follows (x ∷ xs) (first, each) = (follows x first, each_map P Q f follows xs each)

-- each element of what is made of others
pub each_flat : {X Y : Type 0} (P : X → Type 0) (Q : Y → Type 0) (f : X → List Y) → ((x : X) → P x → Each Q (f x)) → (xs : List X) → Each P xs → Each Q (flat_map f xs)
each_flat P Q f follows [] each = tt
each_flat P Q f follows (x ∷ xs) (first, each) = each_append Q (f x) (flat_map f xs) (follows x first) (each_flat P Q f follows xs each)

-- a piece that is read as it stands: a token, or two symbols side by side that make no symbol of two bytes
pub data IsPiece : List (List ℕ) → Type 0 where
  is_token : {text : List ℕ} (kind : TokenKind) → IsLexeme kind text → IsPiece (text ∷ [])
  are_beside : (first second : ℕ) → is_symbol_byte first ≡ true → is_symbol_byte second ≡ true → is_symbol_pair first second ≡ false → IsPiece ((first ∷ []) ∷ (second ∷ []) ∷ [])

-- each of these is such a piece
abbrev pub ArePieces : List (List (List ℕ)) → Type 0
ArePieces = Each IsPiece

pieces_append : (a b : List (List (List ℕ))) → ArePieces a → ArePieces b → ArePieces (a ++ b)
pieces_append a b = each_append IsPiece a b

-- a word is a piece
pub word_piece : {text : List ℕ} → IsWord text → IsPiece (text ∷ [])
word_piece word = is_token Word word

-- a number in decimal is a piece
pub number_piece : (n : ℕ) → IsPiece (decimal n ∷ [])
number_piece n = is_token Number (decimal_digits n)

open_piece : IsPiece (codes "(" ∷ [])
open_piece = is_token Symbol refl

close_piece : IsPiece (codes ")" ∷ [])
close_piece = is_token Symbol refl

comma_piece : IsPiece (codes "," ∷ [])
comma_piece = is_token Symbol refl

-- pieces in parentheses
pub in_parentheses : (inner : List (List (List ℕ))) → ArePieces inner → ArePieces (around (piece (codes "(")) inner (piece (codes ")")))
in_parentheses inner are = (open_piece, pieces_append inner (piece (codes ")")) are (close_piece, tt))

-- two expressions with an operator between them
pub operation_pieces : (a : List (List (List ℕ))) (operator : List ℕ) (b : List (List (List ℕ))) → IsPiece (operator ∷ []) → ArePieces a → ArePieces b → ArePieces (operation a operator b)
operation_pieces a operator b token left right =
    (open_piece, pieces_append a (piece operator ++ (b ++ piece (codes ")"))) left (token, pieces_append b (piece (codes ")")) right (close_piece, tt)))

-- two expressions after the name of a function
pub call_pieces : (function : List ℕ) (a b : List (List (List ℕ))) → IsPiece (function ∷ []) → ArePieces a → ArePieces b → ArePieces (call_of_two function a b)
call_pieces function a b token left right = (token, operation_pieces a (codes ",") b comma_piece left right)

-- the test whether the value is in a set
pub membership_pieces : (operator : List ℕ) (set : List (List (List ℕ))) → IsPiece (operator ∷ []) → ArePieces set → ArePieces (membership operator set)
membership_pieces operator set token are = (open_piece, (word_piece (refl, refl), (token, pieces_append set (piece (codes ")")) are (close_piece, tt))))

-- a number with its sign
pub signed_are : (n : ℤ) → ArePieces (signed_pieces n)
signed_are (pos n) = (number_piece n, tt)
signed_are (negsuc n) = (is_token Symbol refl, (number_piece (suc n), tt))

more_numbers : (values : List ℕ) → ArePieces (flat_map (λ v. piece (codes ",") ++ piece (decimal v)) values)
more_numbers [] = tt
more_numbers (value ∷ values) = (comma_piece, (number_piece value, more_numbers values))

braced_are : (values : List ℕ) → ArePieces (braced values)
braced_are [] = (is_token Symbol refl, (is_token Symbol refl, tt))
braced_are (value ∷ values) =
    (is_token Symbol refl, (number_piece value, pieces_append (flat_map (λ v. piece (codes ",") ++ piece (decimal v)) values) (piece (codes "}")) (more_numbers values) (is_token Symbol refl, tt)))

-- a set of values
pub literal_are : (set : ℕ) → ArePieces (literal_pieces set)
literal_are set = braced_are (members set)

-- both crates take the same bytes for those of words
starts_line_word : (byte : ℕ) → starts_word byte ≡ true → is_word_start byte ≡ true
starts_line_word byte starts = grind (arith, nat_tests)

goes_on_line_word : (byte : ℕ) → goes_on_word byte ≡ true → is_word_byte byte ≡ true
goes_on_line_word byte goes_on = grind (arith, nat_tests)

all_go_on : (bytes : List ℕ) → list_all goes_on_word bytes ≡ true → list_all is_word_byte bytes ≡ true
all_go_on [] all = refl
all_go_on (byte ∷ more) all = let parts = and_parts _ _ all in and_from _ _ (goes_on_line_word byte parts.0) (all_go_on more parts.1)

-- a word of a specification is a word of a line
pub is_word_word : (word : List ℕ) → is_word word ≡ true → IsWord word
is_word_word [] is = absurd (both_ways _ refl is)
is_word_word (first ∷ more) is = let parts = and_parts _ _ is in (starts_line_word first parts.0, all_go_on more parts.1)

-- a name is a word, and so is a free name
pub name_word : (name : List ℕ) → is_name name ≡ true → IsWord name
name_word name is = is_word_word name (and_parts _ _ is).0

pub free_name_word : (name : List ℕ) → is_free_name name ≡ true → IsWord name
free_name_word name is = name_word name (and_parts _ _ is).0

-- where something is listed at a place, the name there is a word
abbrev pub HasWords : {K : Type 0} → List K → List (List ℕ) → Type 0
HasWords {K = K} kinds names = (place : ℕ) (test : Option K → Bool) → test None ≡ false → test (slice_get kinds place) ≡ true → IsWord (name_at names place)

-- where nothing is listed, no name is asked for
pub has_no_words : {K : Type 0} (names : List (List ℕ)) → HasWords {K = K} [] names
has_no_words names place test none passes = absurd (both_ways _ none passes)

-- items whose names are words have words
pub has_words : {X K : Type 0} (kind : X → K) (name : X → List ℕ) (items : List X) → Each (λ x. IsWord (name x)) items → HasWords (map kind items) (map name items)
has_words kind name [] each place test none passes = absurd (both_ways _ none passes)
has_words kind name (x ∷ items) (first, each) zero test none passes = first
has_words kind name (x ∷ items) (first, each) (suc place) test none passes = has_words kind name items each place test none passes

-- items whose names are free names have words for names
pub free_names_words : {X : Type 0} (name : X → List ℕ) (items : List X) → list_all is_free_name (map name items) ≡ true → Each (λ x. IsWord (name x)) items
free_names_words name [] all = tt
free_names_words name (x ∷ items) all = let parts = and_parts _ _ all in (free_name_word (name x) parts.0, free_names_words name items parts.1)
