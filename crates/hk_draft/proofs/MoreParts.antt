-- Specifications and scopes side by side, with one more of each.
use Rattle.std.proofs.Common.{◌≡◌, ℕ, ℤ, List, [], ◌∷◌, ◌++◌, length, map, refl, sym, ap, subst, ◌∙◌, append_assoc}
use Rattle.std.specs.Prelude.{All}
use Rattle.std.proofs.lemmas.List.{map-append}
use Rattle.std.proofs.lemmas.List.Elements.{All-map}
use Rattle.hk_spec.specs.Library.{gcc_bound, gcc_bounds}
use Rattle.hk_group.specs.Composed.{HaveLengths, parts_of}
use Rattle.hk_group.specs.Grouping.{part_on}
use Rattle.hk_group.specs.Groups.{Part}
use Rattle.hk_spec.specs.Specifications.{BoundSpecification}

module _ (bound : BoundSpecification) (scope : List ℕ) where
  pub lengths_push : (bounds : List BoundSpecification) (scopes : List (List ℕ)) → bound.len ≡ length scope → HaveLengths bounds scopes → HaveLengths (bounds ++ bound ∷ []) (scopes ++ scope ∷ [])
  lengths_push [] [] long lengths = (long, tt)
  lengths_push [] (other ∷ scopes) long lengths = absurd lengths
  lengths_push (first ∷ bounds) [] long lengths = absurd lengths
  lengths_push (first ∷ bounds) (other ∷ scopes) long lengths = (lengths.0, lengths_push bounds scopes long lengths.1)

  pub parts_push : (bounds : List BoundSpecification) (scopes : List (List ℕ)) → HaveLengths bounds scopes → parts_of (bounds ++ bound ∷ []) (scopes ++ scope ∷ []) ≡ parts_of bounds scopes ++ part_on scope bound ∷ []
  parts_push [] [] lengths = refl
  parts_push [] (other ∷ scopes) lengths = absurd lengths
  parts_push (first ∷ bounds) [] lengths = absurd lengths
  parts_push (first ∷ bounds) (other ∷ scopes) lengths = ap (λ parts. part_on other first ∷ parts) (parts_push bounds scopes lengths.1)

-- the same of lists with one more of each, the scope copied
module _ (bounds more : List BoundSpecification) (scopes further : List (List ℕ)) (bound : BoundSpecification) (scope copy : List ℕ)
    (first : more ≡ bounds ++ bound ∷ []) (second : further ≡ scopes ++ copy ∷ []) (same : copy ≡ scope) where
  pub pushed_parts : HaveLengths bounds scopes → parts_of more further ≡ parts_of bounds scopes ++ part_on scope bound ∷ []
  pushed_parts lengths =
      ap (λ ss. parts_of more ss) second ∙ ap (λ bs. parts_of bs (scopes ++ copy ∷ [])) first ∙ ap (λ s. parts_of (bounds ++ bound ∷ []) (scopes ++ s ∷ [])) same
      ∙ parts_push bound scope bounds scopes lengths

  pub pushed_lengths : bound.len ≡ length scope → HaveLengths bounds scopes → HaveLengths more further
  pushed_lengths long lengths =
      subst (λ bs. HaveLengths bs further) (sym first) (subst (HaveLengths (bounds ++ bound ∷ [])) (sym second)
      (subst (λ s. HaveLengths (bounds ++ bound ∷ []) (scopes ++ s ∷ [])) (sym same) (lengths_push bound scope bounds scopes long lengths)))

-- a part more of those that are put there
pub parts_on_more : (old new now : List Part) (scope : List ℕ) (bounds : List BoundSpecification) (bound : BoundSpecification) → now ≡ old ++ map (part_on scope) bounds → new ≡ now ++ part_on scope bound ∷ []
    → new ≡ old ++ map (part_on scope) (bounds ++ bound ∷ [])
parts_on_more old new now scope bounds bound is added =
    added ∙ ap (λ parts. parts ++ part_on scope bound ∷ []) is ∙ append_assoc old (map (part_on scope) bounds) (part_on scope bound ∷ [])
    ∙ ap (λ parts. old ++ parts) (sym (map-append (part_on scope) bounds (bound ∷ [])))

-- the specifications of rows are for so many variables
pub rows_long : (n : ℕ) (rows : List (ℕ × ℤ × ℤ)) → All (λ (bound : BoundSpecification). bound.len ≡ n) (gcc_bounds n rows)
rows_long n rows = All-map (λ (bound : BoundSpecification). bound.len ≡ n) (gcc_bound n) rows (λ k d within. refl)
