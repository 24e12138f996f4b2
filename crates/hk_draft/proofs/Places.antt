-- The places of names, one after the other.
use Rattle.std.proofs.Common.{◌≡◌, ℕ, ◌+◌, ◌<◌, ◌≤◌, List, [], ◌∷◌, ◌++◌, length, map, drop, get_or, Option, None, Some, Any, Bor, pos, ap, sym, ◌∙◌, append_assoc}
use Rattle.std.proofs.lemmas.List.{map-append, drop_more, length-map, get_or-map, append-nil, at_drop_all}
use Rattle.std.proofs.lemmas.Simd.{map-map}
use Rattle.hk_lines.specs.declared.phrases.Term.{Term}
use Rattle.hk_lines.specs.Plain.{terms_of}
use Rattle.hk_draft.specs.Declares.{term_names}

-- any reference, and any term
abbrev pub any_reference : Bor (List ℕ)
any_reference = record { ref_ptr = (0, 0); now = [] }

abbrev pub any_term : Term
any_term = record { coef = pos 0; name = any_reference }

-- the name of a term
abbrev pub name_of : Term → List ℕ
name_of term = term.name.now

-- the names of terms, read one by one
pub names_of_terms : (terms : List Term) → map name_of terms ≡ term_names (terms_of terms)
names_of_terms terms = sym (map-map _ _ terms)

module _ {X : Type 0} (name : X → List ℕ) (place : List ℕ → Option ℕ) (xs : List X) (i : ℕ) (d : X) (within : i < length xs) where
  -- a name without a place is one of the names
  pub unplaced : place (name (get_or xs i d)) ≡ None → Any (λ n. place n ≡ None) (map name xs)
  unplaced is = (i, name (get_or xs i d), simp length-map within, get_or-map name xs i d (name (get_or xs i d)) within, is)

  module _ (scope : List ℕ) (found : map place (map name xs) ≡ map Some scope ++ map place (map name (drop i xs))) where
    next : map place (map name (drop i xs)) ≡ place (name (get_or xs i d)) ∷ map place (map name (drop (i + 1) xs))
    next = ap (λ (left : List X). map place (map name left)) (drop_more xs i d within)

    -- a place more
    pub places_more : (more : List ℕ) (p : ℕ) → place (name (get_or xs i d)) ≡ Some p → more ≡ scope ++ p ∷ []
        → map place (map name xs) ≡ map Some more ++ map place (map name (drop (i + 1) xs))
    places_more more p is added =
        let left = map place (map name (drop (i + 1) xs)) in
        found
        ∙ ap (λ ps. map Some scope ++ ps) (next ∙ ap (λ o. o ∷ left) is)
        ∙ sym (append_assoc (map Some scope) (Some p ∷ []) left)
        ∙ ap (λ ps. ps ++ left) (sym (ap (map Some) added ∙ map-append Some scope (p ∷ [])))

-- where no name is left, these are the places of all
pub places_all : {X : Type 0} (name : X → List ℕ) (place : List ℕ → Option ℕ) (xs : List X) (i : ℕ) (scope : List ℕ) → length xs ≤ i
    → map place (map name xs) ≡ map Some scope ++ map place (map name (drop i xs)) → map place (map name xs) ≡ map Some scope
places_all name place xs i scope over found =
    found ∙ at_drop_all (λ left. map Some scope ++ map place (map name left)) xs i over ∙ append-nil (map Some scope)
