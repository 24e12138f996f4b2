-- Pieces as text, one after another.
use Rattle.std.proofs.Common.{◌≡◌, ℕ, List, [], ◌∷◌, ◌++◌, codes, refl, sym, ap, ◌∙◌, subst}
use Rattle.std.specs.Fmt.{decimal}
use Rattle.std.specs.List.{concat, flat_map, join_by}
use Rattle.std.proofs.lemmas.Grind.{flat_map-append}
use Rattle.std.proofs.lemmas.List.{append-nil}
use Rattle.hk_base.specs.Lists.{AppendsFront}
use Rattle.hk_text.specs.Sets.{members, values_text}
use Rattle.hk_text.proofs.Appending.{AppendsFront-first}
use Rattle.hk_print.specs.Pieces.{spaced, piece, around, braced, literal_pieces}

-- the text of pieces in a row is their texts in a row
pub spaced_append : (a b : List (List (List ℕ))) → spaced (a ++ b) ≡ spaced a ++ spaced b
spaced_append a b = flat_map-append (λ (tokens : List (List ℕ)). codes " " ++ concat tokens) a b

-- the text of pieces for each item is the text of each
pub spaced_items : {X : Type 0} (pieces : X → List (List (List ℕ))) (items : List X) → spaced (flat_map pieces items) ≡ flat_map (λ item. spaced (pieces item)) items
spaced_items pieces [] = refl
spaced_items pieces (item ∷ items) = spaced_append (pieces item) (flat_map pieces items) ∙ ap (λ xs. spaced (pieces item) ++ xs) (spaced_items pieces items)

-- where the first pieces are written in part, so are all
pub spaced_first : (old new : List ℕ) (first more : List (List (List ℕ))) → AppendsFront old new (spaced first) → AppendsFront old new (spaced (first ++ more))
spaced_first old new first more part = subst (AppendsFront old new) (sym (spaced_append first more)) (AppendsFront-first old new (spaced first) (spaced more) part)

-- the text of a piece of one token
pub spaced_piece : (token : List ℕ) → spaced (piece token) ≡ codes " " ++ token
spaced_piece token = ap (λ xs. codes " " ++ xs) (append-nil (token ++ []) ∙ append-nil token)

-- the text of pieces between others
pub spaced_around : (before inner after : List (List (List ℕ))) → spaced (around before inner after) ≡ around (spaced before) (spaced inner) (spaced after)
spaced_around before inner after = spaced_append before (inner ++ after) ∙ ap (λ xs. spaced before ++ xs) (spaced_append inner after)

spaced_more : (values : List ℕ) → spaced (flat_map (λ v. piece (codes ",") ++ piece (decimal v)) values) ≡ flat_map (λ v. codes " ," ++ (codes " " ++ decimal v)) values
spaced_more [] = refl
spaced_more (value ∷ values) =
    ap (λ xs. codes " , " ++ (xs ++ spaced (flat_map (λ v. piece (codes ",") ++ piece (decimal v)) values))) (append-nil (decimal value))
    ∙ ap (λ xs. codes " , " ++ (decimal value ++ xs)) (spaced_more values)

spaced_values : (value : ℕ) (values : List ℕ) → spaced (join_by (λ v. piece (decimal v)) (piece (codes ",")) (value ∷ values)) ≡ values_text (codes " ") (codes " ,") (value ∷ values)
spaced_values value values =
    spaced_append (piece (decimal value)) (flat_map (λ v. piece (codes ",") ++ piece (decimal v)) values)
    ∙ ap (λ xs. xs ++ spaced (flat_map (λ v. piece (codes ",") ++ piece (decimal v)) values)) (spaced_piece (decimal value))
    ∙ ap (λ xs. (codes " " ++ decimal value) ++ xs) (spaced_more values)

-- the text of a set
pub literal_text : (set : ℕ) → spaced (literal_pieces set) ≡ around (codes " {") (values_text (codes " ") (codes " ,") (members set)) (codes " }")
literal_text set = by (members set)
  where
    by : (values : List ℕ) → spaced (braced values) ≡ around (codes " {") (values_text (codes " ") (codes " ,") values) (codes " }")
    by [] = refl
    by (value ∷ values) =
        spaced_around (piece (codes "{")) (join_by (λ v. piece (decimal v)) (piece (codes ",")) (value ∷ values)) (piece (codes "}"))
        ∙ ap (λ xs. around (codes " {") xs (codes " }")) (spaced_values value values)
