-- Parts that are made one by one of specifications and scopes.
use Rattle.std.proofs.Common.{◌≡◌, ℕ, ◌+◌, ◌<◌, List, [], ◌∷◌, ◌++◌, length, drop, get_or, All, Any, Contains, ◌↔◌, arith, ap, sym, ◌∙◌, subst}
use Rattle.std.specs.List.Sorted.{IsStrictlyIncreasing}
use Rattle.std.proofs.lemmas.Grind.{common_steps}
use Rattle.std.proofs.lemmas.List.{drop_more, length-drop}
use Rattle.std.proofs.lemmas.Slice.Zip.{AllZip-long}
use Rattle.hk_spec.specs.Specifications.{BoundSpecification}
use Rattle.hk_group.specs.Composed.{HaveLengths, parts_of}
use Rattle.hk_group.specs.Groups.{Part, IsGroup, IsPart}

-- what is left of both lists is an item of each and what is left of them then
module _ (bounds : List BoundSpecification) (scopes : List (List ℕ)) (i : ℕ) (bound : BoundSpecification) (scope : List ℕ)
    (within : i < length bounds) (first : bound ≡ get_or bounds i bound) (second : scope ≡ get_or scopes i scope) (left : HaveLengths (drop i bounds) (drop i scopes)) where
  bounds_left : drop i bounds ≡ bound ∷ drop (i + 1) bounds
  bounds_left = drop_more bounds i bound within ∙ ap (λ b. b ∷ drop (i + 1) bounds) (sym first)

  scopes_left : drop i scopes ≡ scope ∷ drop (i + 1) scopes
  scopes_left =
      let long : length (drop i scopes) ≡ length (drop i bounds) = AllZip-long _ _ _ left in
      let inside : i < length scopes = omega (arith, length-drop i scopes, length-drop i bounds) in
      drop_more scopes i scope inside ∙ ap (λ s. s ∷ drop (i + 1) scopes) (sym second)

  pub lengths_left : HaveLengths (drop (i + 1) bounds) (drop (i + 1) scopes)
  lengths_left =
      let both : HaveLengths (bound ∷ drop (i + 1) bounds) (scope ∷ drop (i + 1) scopes) = subst (λ s. HaveLengths (bound ∷ drop (i + 1) bounds) s) scopes_left (subst (λ b. HaveLengths b (drop i scopes)) bounds_left left) in
      both.1

  made : parts_of (drop i bounds) (drop i scopes) ≡ record { bound = bound; scope = scope } ∷ parts_of (drop (i + 1) bounds) (drop (i + 1) scopes)
  made = ap (λ b. parts_of b (drop i scopes)) bounds_left ∙ ap (parts_of (bound ∷ drop (i + 1) bounds)) scopes_left

  pub parts_left : (whole parts new : List Part) → whole ≡ parts ++ parts_of (drop i bounds) (drop i scopes) → new ≡ parts ++ record { bound = bound; scope = scope } ∷ [] → whole ≡ new ++ parts_of (drop (i + 1) bounds) (drop (i + 1) scopes)
  parts_left whole parts new is added =
      is ∙ (ap (λ rest. parts ++ rest) made ∙ (apart parts (record { bound = bound; scope = scope }) (parts_of (drop (i + 1) bounds) (drop (i + 1) scopes)) ∙ ap (λ front. front ++ parts_of (drop (i + 1) bounds) (drop (i + 1) scopes)) (sym added)))
    where
      apart : (xs : List Part) (x : Part) (ys : List Part) → xs ++ x ∷ ys ≡ (xs ++ x ∷ []) ++ ys
      apart xs x ys = grind (arith, common_steps)

-- at least one specification makes at least one part
pub some_parts : (bounds : List BoundSpecification) (scopes : List (List ℕ)) → 0 < length bounds → HaveLengths bounds scopes → 0 < length (parts_of bounds scopes)
some_parts [] scopes some lengths = absurd (omega arith)
some_parts (bound ∷ bounds) [] some lengths = absurd lengths
some_parts (bound ∷ bounds) (scope ∷ scopes) some lengths = omega arith

pub group_of : (parts : List Part) (vars : List ℕ) → 0 < length parts → All IsPart parts → IsStrictlyIncreasing vars → ((variable : ℕ) → Contains vars variable ↔ Any (λ (part : Part). Contains part.scope variable) parts) → IsGroup (record { vars = vars; parts = parts })
group_of parts vars some rules rising union = record { some = some; parts = rules; rising = rising; union = union }
