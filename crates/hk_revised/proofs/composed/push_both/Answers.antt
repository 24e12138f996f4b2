use Rattle.std.proofs.Common.{◌≡◌, ℕ, List, [], ◌∷◌, ◌++◌, length}
use Rattle.hk_group.specs.Composed.{HaveLengths}
use Rattle.hk_spec.specs.Specifications.{BoundSpecification}
use Rattle.hk_revised.proofs.composed.push_both.Goals as goal

-- a specification and its scope may follow at the ends
push-HaveLengths : (bounds : List BoundSpecification) (scopes : List (List ℕ)) (bound : BoundSpecification) (scope : List ℕ) → HaveLengths bounds scopes → bound.len ≡ length scope → HaveLengths (bounds ++ bound ∷ []) (scopes ++ scope ∷ [])
push-HaveLengths [] [] bound scope all one = (one, tt)
push-HaveLengths [] (_ ∷ _) bound scope all one = absurd all
push-HaveLengths (_ ∷ _) [] bound scope all one = absurd all
push-HaveLengths (_ ∷ bounds) (_ ∷ scopes) bound scope all one = (all.0, push-HaveLengths bounds scopes bound scope all.1 one)

pub returns : goal.returns
returns c = rw c.in_default.ensures.ok (rw c.in_ok-push.ensures.ok (push-HaveLengths _ _ _ _ c.requires.lengths c.requires.one_each))
