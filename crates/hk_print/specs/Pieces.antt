-- Tokens in pieces. The tokens of a piece stand side by side, and between two pieces of a line stands a space.
use Rattle.std.specs.Prelude.{ℕ, ℤ, pos, negsuc, suc, List, [], ◌∷◌, ◌++◌, codes}
use Rattle.std.specs.Fmt.{decimal}
use Rattle.std.specs.List.{concat, flat_map, join_by}
use Rattle.hk_text.specs.Sets.{members}

-- one piece, of one token
abbrev pub piece : List ℕ → List (List (List ℕ))
piece token = (token ∷ []) ∷ []

-- the tokens of pieces, in order
abbrev pub tokens_of : List (List (List ℕ)) → List (List ℕ)
tokens_of = flat_map (λ tokens. tokens)

-- pieces as text, each after a space
abbrev pub spaced : List (List (List ℕ)) → List ℕ
spaced = flat_map (λ tokens. codes " " ++ concat tokens)

-- a line of pieces as text: one space between two, and a line feed at the end
abbrev pub line_text : List (List (List ℕ)) → List ℕ
line_text [] = codes "\n"
line_text (first ∷ more) = concat first ++ (spaced more ++ codes "\n")

-- one list between two others
abbrev pub around : {A : Type 0} → List A → List A → List A → List A
around before inner after = before ++ (inner ++ after)

-- two lists, and one before, between and after them
abbrev pub around_two : {A : Type 0} → List A → List A → List A → List A → List A → List A
around_two before a between b after = before ++ (a ++ (between ++ (b ++ after)))

-- a number: its digits, after a `-` where it is negative
abbrev pub signed_pieces : ℤ → List (List (List ℕ))
signed_pieces (pos n) = piece (decimal n)
signed_pieces (negsuc n) = piece (codes "-") ++ piece (decimal (suc n))

-- values in braces, with commas between them
abbrev pub braced : List ℕ → List (List (List ℕ))
braced values = around (piece (codes "{")) (join_by (λ v. piece (decimal v)) (piece (codes ",")) values) (piece (codes "}"))

-- a set: its values in braces, ascending
abbrev pub literal_pieces : ℕ → List (List (List ℕ))
literal_pieces set = braced (members set)
