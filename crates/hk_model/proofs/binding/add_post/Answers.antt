use Rattle.std.proofs.Common.{◌≡◌, ◌⊎◌, ◌<◌, All, Any, Bor, List, ℕ, length, map, true≢false, refl, sym, ap, ◌∙◌, subst, rules}
use Rattle.std.specs.List.Sorted.{IsStrictlyIncreasing}
use Rattle.std.proofs.lemmas.List.{length-map}
use Rattle.hk_group.specs.Limits.{most_constraints}
use Rattle.hk_lines.specs.declared.posts.PostArg.{PostArg}
use Rattle.hk_group.specs.declared.problem.Constraint.TheVariants.{User}
use Rattle.hk_lines.specs.Posts.{Post}
use Rattle.hk_model.specs.Postings.{IsSmallArg}
use Rattle.hk_lines.specs.PostShapes.{args_of}
use Rattle.hk_draft.specs.Drafts.{PlainDraft, HasGroup}
use Rattle.hk_lines.proofs.Membership.{now_of}
use Rattle.hk_draft.proofs.OneEffect.{with_constraint}
use Rattle.hk_model.proofs.PostFaults.{places_within, unfit_post, named_post, large_post, small_post, posted}
use Rattle.hk_model.proofs.binding.add_post.Goals as goal

-- the post of a name, arguments and names
abbrev post_of : Bor (List ℕ) → Bor (List PostArg) → Bor (List (Bor (List ℕ))) → Post
post_of name args names = record { spec = name.now; args = args_of args.now; names = map now_of names.now }

-- arguments that are small on a scope of so many references are so on one of so many names
small_on : (names : List (Bor (List ℕ))) (args : List PostArg) → All (IsSmallArg (length names)) (args_of args) → All (IsSmallArg (length (map now_of names))) (args_of args)
small_on names args small = subst (λ n. All (IsSmallArg n) (args_of args)) (sym (length-map names now_of)) small

-- and so are ones that are not
large_on : (before : PlainDraft) (names : List (Bor (List ℕ))) (args : List PostArg) → ((length before.constraints < most_constraints) × HasGroup before → ⊥) ⊎ Any (λ arg. IsSmallArg (length names) arg → ⊥) (args_of args)
    → ((length before.constraints < most_constraints) × HasGroup before → ⊥) ⊎ Any (λ arg. IsSmallArg (length (map now_of names)) arg → ⊥) (args_of args)
large_on before names args large = subst (λ n. ((length before.constraints < most_constraints) × HasGroup before → ⊥) ⊎ Any (λ arg. IsSmallArg n arg → ⊥) (args_of args)) (sym (length-map names now_of)) large

pub returns-in_default-clause-err : goal.returns-in_default-clause-err
returns-in_default-clause-err c = unfit_post c.args.specs.now c.args.draft.now (post_of c.args.name c.args.args c.args.names) (c.in_default.ensures.none refl)

pub returns-then-post_passes_limit-clause-err : goal.returns-then-post_passes_limit-clause-err
returns-then-post_passes_limit-clause-err c =
    let post = post_of c.args.name c.args.args c.args.names in (
      large_post c.args.draft.now post (large_on c.args.draft.now c.args.names.now c.args.args.now (c.post_passes_limit.ensures.passes c.if-post_passes_limit.true)),
      named_post c.args.specs.now c.args.draft.now post c.in-Some.spec.now c.in-Some.ensures.declared c.in-Some.ensures.fit c.in_ok-scope.scope c.in_ok-scope.ensures.ok,
    )

pub returns-then-not-is_rising-clause-err : goal.returns-then-not-is_rising-clause-err
returns-then-not-is_rising-clause-err c =
    let post = post_of c.args.name c.args.args c.args.names in
    let slice : c.as_slice.result.now ≡ c.in_ok-scope.scope = c.as_slice.ensures in (
      record {
        scope = c.in_ok-scope.scope;
        places = c.in_ok-scope.ensures.ok;
        falls = λ rising. true≢false (sym (c.is_rising.ensures.1 (subst IsStrictlyIncreasing (sym slice) rising)) ∙ c.if-not-is_rising.true);
      },
      named_post c.args.specs.now c.args.draft.now post c.in-Some.spec.now c.in-Some.ensures.declared c.in-Some.ensures.fit c.in_ok-scope.scope c.in_ok-scope.ensures.ok,
      small_post c.args.draft.now post (c.post_passes_limit.ensures.room c.if-post_passes_limit.false) (small_on c.args.names.now c.args.args.now (c.post_passes_limit.ensures.small c.if-post_passes_limit.false)),
    )

pub scope_len-len-requires-clause-declared : goal.scope_len-len-requires-clause-declared
scope_len-len-requires-clause-declared c =
    let slice : c.as_slice-2.result.now ≡ c.in_ok-scope.scope = c.as_slice-2.ensures in
    subst (All (λ place. place < length c.args.draft.now.names)) (sym slice) (places_within c.args.draft.now.names (map now_of c.args.names.now) c.in_ok-scope.scope c.in_ok-scope.ensures.ok)

pub returns-in_ok-add_constraint-in-Ok-clause-ok : goal.returns-in_ok-add_constraint-in-Ok-clause-ok
returns-in_ok-add_constraint-in-Ok-clause-ok c =
    let slice : c.as_slice.result.now ≡ c.in_ok-scope.scope = c.as_slice.ensures in
    let whole : c.as_slice-2.result.now ≡ c.in_ok-scope.scope = c.as_slice-2.ensures in
    let added : c.add_constraint.new.self ≡ with_constraint c.args.draft.now (User c.in-Ok.bound c.in_ok-scope.scope) = search rules in
    posted (post_of c.args.name c.args.args c.args.names) c.in-Some.spec.now c.in-Ok.bound c.in_ok-scope.scope c.in-Some.ensures.declared c.in-Some.ensures.fit
    (c.post_passes_limit.ensures.room c.if-post_passes_limit.false)
    (small_on c.args.names.now c.args.args.now (c.post_passes_limit.ensures.small c.if-post_passes_limit.false))
    (record { declared = c.in_ok-scope.ensures.ok; rising = subst IsStrictlyIncreasing slice (c.is_rising.ensures.0 c.if-not-is_rising.false) })
    c.in-Ok.ensures.spec c.in-Ok.ensures.args (c.in-Ok.ensures.len ∙ c.scope_len-len.ensures ∙ ap length whole) added
