-- What the tests of a post say of its faults, and what is declared after it.
use Rattle.std.proofs.Common.{◌≡◌, ℕ, ◌<◌, ◌⊎◌, inl, inr, List, [], ◌∷◌, length, map, Option, None, Some, refl, ap, subst, ◌∙◌, arith}
use Rattle.std.specs.Prelude.{All, Any}
use Rattle.std.proofs.Math.Decide.{dec_lt}
use Rattle.std.proofs.lemmas.List.Elements.{All-nil, All-cons}
use Rattle.std.proofs.lemmas.List.Quantifiers.{position-Some}
use Rattle.hk_spec.specs.Specifications.{Specification, BoundSpecification, param_kinds}
use Rattle.hk_group.specs.Limits.{most_constraints}
use Rattle.hk_group.specs.declared.problem.Constraint.TheVariants.{User}
use Rattle.hk_lines.specs.Posts.{Post}
use Rattle.hk_model.specs.Postings.{spec_of, FitKinds, IsSmallArg, AreArgsOf, PostNameFault, no_spec, other_args, no_variable, PostLimitFault, many_posts, no_post_group, large_arg, AddsPost}
use Rattle.hk_model.specs.inside.PostFaults.{HasNoFit}
use Rattle.hk_draft.specs.Drafts.{PlainDraft, HasGroup}
use Rattle.hk_draft.specs.Declares.{place_of, AreNamesOf}
use Rattle.hk_draft.proofs.Effects.{no_places_of}
use Rattle.hk_draft.proofs.OneEffect.{with_constraint}
use Rattle.hk_lines.proofs.Elements.{each_not_some}

-- the place of a name is that of a variable
pub places_within : (all names : List (List ℕ)) (scope : List ℕ) → map (place_of all) names ≡ map Some scope → All (λ place. place < length all) scope
places_within all names [] same = All-nil (λ place. place < length all)
places_within all [] (first ∷ scope) same = cc
places_within all (name ∷ names) (first ∷ scope) same =
    let place : place_of all name ≡ Some first = cc in
    let rest : map (place_of all) names ≡ map Some scope = cc in
    All-cons (λ place. place < length all) first scope (position-Some _ all first [] place).0 (places_within all names scope rest)

-- where no specification of the name asks such arguments, the post has a fault of a name
pub unfit_post : (specs : List Specification) (before : PlainDraft) (post : Post) → HasNoFit specs post.spec post.args → PostNameFault specs before post
unfit_post specs before post none = by (spec_of specs post.spec) refl
  where
    by : (found : Option Specification) → spec_of specs post.spec ≡ found → PostNameFault specs before post
    by None is = no_spec is
    by (Some spec) is = other_args is (none spec is)

-- one specification is found
pub same_found : {found : Option Specification} {s t : Specification} → found ≡ Some s → found ≡ Some t → s ≡ t
same_found x y = cc

module _ (specs : List Specification) (before : PlainDraft) (post : Post) (spec : Specification) (declared : spec_of specs post.spec ≡ Some spec) (fit : FitKinds (param_kinds spec) post.args) where
  -- where the arguments fit and each name is declared, there is no fault of a name
  pub all_named : (Any (λ name. place_of before.names name ≡ None) post.names → ⊥) → PostNameFault specs before post → ⊥
  all_named all (no_spec none) = cc
  all_named all (other_args is other) = other (subst (λ s. FitKinds (param_kinds s) post.args) (same_found declared is) fit)
  all_named all (no_variable none) = all none

  -- so there is none where the names have places
  pub named_post : (scope : List ℕ) → map (place_of before.names) post.names ≡ map Some scope → PostNameFault specs before post → ⊥
  named_post scope places = all_named (λ none. no_places_of before.names post.names none scope places)

-- where there is no room or an argument is not small, there is a fault of a limit
pub large_post : (before : PlainDraft) (post : Post) → ((length before.constraints < most_constraints) × HasGroup before → ⊥) ⊎ Any (λ arg. IsSmallArg (length post.names) arg → ⊥) post.args → PostLimitFault before post
large_post before post (inl none) = by (dec_lt (length before.constraints) most_constraints)
  where
    by : Dec (length before.constraints < most_constraints) → PostLimitFault before post
    by (yes room) = no_post_group (λ group. none (room, group))
    by (no full) = many_posts (omega (arith, full))
large_post before post (inr large) = large_arg large

-- and where there is room and the arguments are small, there is none
pub small_post : (before : PlainDraft) (post : Post) → (length before.constraints < most_constraints) × HasGroup before → All (IsSmallArg (length post.names)) post.args → PostLimitFault before post → ⊥
small_post before post room small (many_posts many) = let less = room.0 in omega (arith, less, many)
small_post before post room small (no_post_group none) = none room.1
small_post before post room small (large_arg large) = each_not_some (IsSmallArg (length post.names)) (λ arg. IsSmallArg (length post.names) arg → ⊥) (λ arg is none. none is) post.args small large

-- the specification that is bound to the arguments is added on the scope
pub posted : {specs : List Specification} {before after : PlainDraft} (post : Post) (spec : Specification) (bound : BoundSpecification) (scope : List ℕ) → spec_of specs post.spec ≡ Some spec → FitKinds (param_kinds spec) post.args
    → (length before.constraints < most_constraints) × HasGroup before → All (IsSmallArg (length post.names)) post.args → AreNamesOf post.names before scope
    → bound.spec ≡ spec → AreArgsOf post.args bound.args → bound.len ≡ length scope
    → after ≡ with_constraint before (User bound scope) → AddsPost specs post before after
posted {before = before} post spec bound scope declared fit room small names_are spec_is args_are len_is added =
    let bound_is : User bound scope ≡ User (record { spec = spec; args = bound.args; len = length scope }) scope = λ i. User (record { spec = spec_is i; args = bound.args; len = len_is i }) scope in
    record {
      spec = spec;
      declared = declared;
      fit = fit;
      small = small;
      args = bound.args;
      args_are = args_are;
      scope = scope;
      names_are = names_are;
      adds = record { room = room.0; group = room.1; added = added ∙ ap (with_constraint before) bound_is };
    }
