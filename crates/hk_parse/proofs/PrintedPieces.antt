-- The tokens of pieces.
use Rattle.std.proofs.Common.{◌≡◌, ℕ, ℤ, pos, negsuc, List, [], ◌∷◌, ◌++◌, map, refl, sym, ap, ◌∙◌}
use Rattle.std.specs.Prelude.{codes}
use Rattle.std.specs.Fmt.{decimal}
use Rattle.std.specs.List.{join_by}
use Rattle.std.proofs.lemmas.Grind.{flat_map-append}
use Rattle.std.proofs.lemmas.List.{append_assoc}
use Rattle.hk_text.specs.Sets as hk_text
use Rattle.hk_print.specs.Expressions.{operation, call_of_two, membership}
use Rattle.hk_terms.specs.NumTexts.{number_texts}
use Rattle.hk_print.specs.Pieces.{piece, tokens_of, around, braced, literal_pieces, signed_pieces}
use Rattle.hk_terms.specs.SetTexts.{listed, in_parentheses}
use Rattle.hk_terms.specs.Trees.{members, member_texts, is_negative, digits_of}

-- the tokens of pieces in a row are their tokens in a row
pub tokens_append : (a b : List (List (List ℕ))) → tokens_of (a ++ b) ≡ tokens_of a ++ tokens_of b
tokens_append a b = flat_map-append (λ (tokens : List (List ℕ)). tokens) a b

-- two lists in a row
pub in_a_row : {X : Type 0} {a b x y : List X} → a ≡ x → b ≡ y → a ++ b ≡ x ++ y
in_a_row h k = cc

-- the pieces have these tokens
pub record HasTokens (pieces : List (List (List ℕ))) (tokens : List (List ℕ)) : Type 0 where
  pub are : tokens_of pieces ≡ tokens

-- pieces before a last token
closed_tokens : {b : List (List (List ℕ))} {y : List (List ℕ)} → HasTokens b y → (token : List ℕ) → tokens_of (b ++ piece token) ≡ y ++ token ∷ []
closed_tokens {b = b} second token = tokens_append b (piece token) ∙ ap (λ xs. xs ++ token ∷ []) second.are

module _ {a b : List (List (List ℕ))} {x y : List (List ℕ)} (first : HasTokens a x) (second : HasTokens b y) where
  -- pieces, a token between, and pieces before a last token
  between_tokens : (mark close : List ℕ) → tokens_of (a ++ (piece mark ++ (b ++ piece close))) ≡ (x ++ (mark ∷ y)) ++ close ∷ []
  between_tokens mark close =
      tokens_append a (piece mark ++ (b ++ piece close)) ∙ in_a_row first.are (ap (λ xs. mark ∷ xs) (closed_tokens second close)) ∙ sym (append_assoc x (mark ∷ y) (close ∷ []))

  -- an operation in parentheses
  pub operation_tokens : (mark : List ℕ) → HasTokens (operation a mark b) (in_parentheses (x ++ (mark ∷ y)))
  operation_tokens mark = record { are = ap (λ xs. codes "(" ∷ xs) (between_tokens mark (codes ")")) }

  -- two expressions after the name of a function
  pub call_tokens : (function : List ℕ) → HasTokens (call_of_two function a b) (function ∷ in_parentheses (x ++ (codes "," ∷ y)))
  call_tokens function = record { are = ap (λ xs. function ∷ codes "(" ∷ xs) (between_tokens (codes ",") (codes ")")) }

  -- one after the other
  pub both_tokens : HasTokens (a ++ b) (x ++ y)
  both_tokens = record { are = tokens_append a b ∙ in_a_row first.are second.are }

module _ {b : List (List (List ℕ))} {y : List (List ℕ)} (second : HasTokens b y) where
  -- a token before pieces
  pub after_token : (token : List ℕ) → HasTokens (piece token ++ b) (token ∷ y)
  after_token token = record { are = ap (λ xs. token ∷ xs) second.are }

  -- an expression in parentheses, after the name of a function
  pub one_call_tokens : (function : List ℕ) → HasTokens (around (piece function ++ piece (codes "(")) b (piece (codes ")"))) (function ∷ in_parentheses y)
  one_call_tokens function = record { are = ap (λ xs. function ∷ codes "(" ∷ xs) (closed_tokens second (codes ")")) }

  -- an expression after a token, in parentheses
  pub one_operation_tokens : (mark : List ℕ) → HasTokens (around (piece (codes "(") ++ piece mark) b (piece (codes ")"))) (in_parentheses (mark ∷ y))
  one_operation_tokens mark = record { are = ap (λ xs. codes "(" ∷ mark ∷ xs) (closed_tokens second (codes ")")) }

  -- the test whether the value is in a set
  pub membership_tokens : (mark : List ℕ) → HasTokens (membership mark b) (in_parentheses (codes "v" ∷ mark ∷ y))
  membership_tokens mark = record { are = ap (λ xs. codes "(" ∷ codes "v" ∷ mark ∷ xs) (closed_tokens second (codes ")")) }

listed_tokens : (value : ℕ) (values : List ℕ) → HasTokens (join_by (λ v. piece (decimal v)) (piece (codes ",")) (value ∷ values)) (listed (map decimal (value ∷ values)))
listed_tokens value [] = record { are = refl }
listed_tokens value (next ∷ values) = let more = listed_tokens next values in record { are = ap (λ xs. decimal value ∷ codes "," ∷ xs) more.are }

braced_tokens : (values : List ℕ) → tokens_of (braced values) ≡ codes "{" ∷ (listed (map decimal values) ++ codes "}" ∷ [])
braced_tokens [] = refl
braced_tokens (value ∷ values) = ap (λ xs. codes "{" ∷ xs) (closed_tokens (listed_tokens value values) (codes "}"))

-- the values of a set
pub members_same : (set : ℕ) → hk_text.members set ≡ members set
unfolding hk_text.members
members_same set = refl

-- a set in braces
pub literal_tokens : (set : ℕ) → HasTokens (literal_pieces set) (codes "{" ∷ (listed (member_texts set) ++ codes "}" ∷ []))
literal_tokens set = record { are = braced_tokens (hk_text.members set) ∙ ap (λ values. codes "{" ∷ (listed (map decimal values) ++ codes "}" ∷ [])) (members_same set) }

-- a number
pub signed_tokens : (n : ℤ) → HasTokens (signed_pieces n) (number_texts (is_negative n) (digits_of n))
signed_tokens (pos n) = record { are = refl }
signed_tokens (negsuc n) = record { are = refl }
