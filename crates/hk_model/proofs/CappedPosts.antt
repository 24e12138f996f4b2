-- A post and the same with its numbers capped have the same faults and effects.
use Rattle.std.proofs.Common.{◌≡◌, ℕ, List, [], ◌∷◌, map, length, refl, sym, ap, subst, arith}
use Rattle.hk_spec.specs.Specifications.{Specification, param_kinds}
use Rattle.hk_spec.specs.declared.parts.ParamKind.{ParamKind}
use Rattle.hk_spec.specs.declared.parts.ParamKind.TheVariants as param
use Rattle.hk_draft.specs.declared.faults.LineFault.{LineFault}
use Rattle.hk_draft.specs.declared.faults.LineFault.TheVariants.{Bad}
use Rattle.hk_group.specs.Limits.{greatest_coefficient}
use Rattle.hk_draft.specs.declared.kinds.RefusalKind.TheVariants as kind
use Rattle.hk_lines.specs.Posts.{ArgText, Number, Set, Numbers, Post}
use Rattle.hk_model.specs.Postings.{FitsKind, FitKinds, IsSmallArg, PostNameFault, no_spec, other_args, no_variable, PostLimitFault, many_posts, no_post_group, large_arg, PostScopeFault, AddsPost}
use Rattle.hk_lines.specs.PostShapes.{capped_arg, capped_post}
use Rattle.hk_model.specs.inside.PostFaults.{IsPostFault}
use Rattle.hk_group.specs.Problems.{IsWithin}
use Rattle.hk_draft.specs.Drafts.{PlainDraft}
use Rattle.hk_lines.specs.Shapes.{capped_signed}
use Rattle.hk_draft.proofs.CappedNumbers.{same_signed, kept_signed, same_set, kept_set, map_same, map_kept}
use Rattle.hk_draft.proofs.CappedStatements.{any_map, any_from_map}

-- an argument fits a kind where the one with its numbers capped does
fits_same : (kind : ParamKind) (arg : ArgText) → FitsKind kind (capped_arg arg) ≡ FitsKind kind arg
fits_same param.Num (Number value) = refl
fits_same param.Set (Set set) = refl
fits_same param.List (Numbers numbers) = refl
fits_same kind arg = refl

-- so do arguments fit kinds
fit_same : (kinds : List ParamKind) (args : List ArgText) → FitKinds kinds (map capped_arg args) ≡ FitKinds kinds args
fit_same [] [] = refl
fit_same (kind ∷ kinds) (arg ∷ args) = λ i. fits_same kind arg i × fit_same kinds args i
fit_same kinds args = refl

-- an argument within its limits is the same when its numbers are capped, and so is one that is within them once they are
same_arg : (count : ℕ) (arg : ArgText) → IsSmallArg count (capped_arg arg) → capped_arg arg ≡ arg
same_arg count (Number value) small = ap Number (same_signed value 1000000000000 (omega arith) small)
same_arg count (Set set) small = ap Set (same_set set small.0 small.1)
same_arg count (Numbers numbers) small = ap Numbers (map_same (IsWithin greatest_coefficient) capped_signed (λ n. same_signed n 1000000 (omega arith)) numbers small.0)

kept_arg : (count : ℕ) (arg : ArgText) → IsSmallArg count arg → capped_arg arg ≡ arg
kept_arg count (Number value) small = ap Number (kept_signed value 1000000000000 (omega arith) small)
kept_arg count (Set set) small = ap Set (kept_set set small.0 small.1)
kept_arg count (Numbers numbers) small = ap Numbers (map_kept (IsWithin greatest_coefficient) capped_signed (λ n. kept_signed n 1000000 (omega arith)) numbers small.0)

module _ (specs : List Specification) (before : PlainDraft) (post : Post) where
  -- they have the same faults of names
  name_whole : PostNameFault specs before (capped_post post) → PostNameFault specs before post
  name_whole (no_spec none) = no_spec none
  name_whole (other_args {s = spec} is other) = other_args is (λ fit. other (subst (λ fits. fits) (sym (fit_same (param_kinds spec) post.args)) fit))
  name_whole (no_variable none) = no_variable none

  name_capped : PostNameFault specs before post → PostNameFault specs before (capped_post post)
  name_capped (no_spec none) = no_spec none
  name_capped (other_args {s = spec} is other) = other_args is (λ fit. other (subst (λ fits. fits) (fit_same (param_kinds spec) post.args) fit))
  name_capped (no_variable none) = no_variable none

  -- the same faults of limits
  limit_whole : PostLimitFault before (capped_post post) → PostLimitFault before post
  limit_whole (many_posts many) = many_posts many
  limit_whole (no_post_group none) = no_post_group none
  limit_whole (large_arg large) = large_arg (any_from_map (λ arg. IsSmallArg (length post.names) arg → ⊥) (λ arg. IsSmallArg (length post.names) arg → ⊥) capped_arg
      (λ arg none small. none (subst (IsSmallArg (length post.names)) (sym (kept_arg (length post.names) arg small)) small)) post.args large)

  limit_capped : PostLimitFault before post → PostLimitFault before (capped_post post)
  limit_capped (many_posts many) = many_posts many
  limit_capped (no_post_group none) = no_post_group none
  limit_capped (large_arg large) = large_arg (any_map (λ arg. IsSmallArg (length post.names) arg → ⊥) (λ arg. IsSmallArg (length post.names) arg → ⊥) capped_arg
      (λ arg none small. none (subst (IsSmallArg (length post.names)) (same_arg (length post.names) arg small) small)) post.args large)

  -- the same faults of scopes
  scope_whole : PostScopeFault before (capped_post post) → PostScopeFault before post
  scope_whole fault = record { scope = fault.scope; places = fault.places; falls = fault.falls }

  -- so why the reader stops at a post with its numbers capped is why it stops at the post
  pub post_fault_whole : (fault : LineFault) → IsPostFault specs before (capped_post post) fault → IsPostFault specs before post fault
  post_fault_whole (Bad kind.Name) faulty = name_whole faulty
  post_fault_whole (Bad kind.Limit) faulty = (limit_whole faulty.0, λ name. faulty.1 (name_capped name))
  post_fault_whole (Bad kind.Scope) faulty = (scope_whole faulty.0, λ name. faulty.1 (name_capped name), λ limit. faulty.2 (limit_capped limit))
  post_fault_whole fault faulty = faulty

  -- what a post with its numbers capped adds is what the post adds
  pub adds_post_whole : {after : PlainDraft} → AddsPost specs (capped_post post) before after → AddsPost specs post before after
  adds_post_whole {after} adds =
      let args = map_same (IsSmallArg (length post.names)) capped_arg (same_arg (length post.names)) post.args adds.small in
      let same : capped_post post ≡ post = λ i. record { spec = post.spec; args = args i; names = post.names } in
      subst (λ p. AddsPost specs p before after) same adds
