-- A post without a fault has an effect, one with a fault has none, and the effect is determined.
use Rattle.std.proofs.Common.{◌≡◌, ℕ, ◌<◌, ◌≤◌, ◌⊎◌, inl, inr, List, [], ◌∷◌, length, Option, None, Some, refl, sym, ap, subst, ◌∙◌, arith}
use Rattle.std.specs.Prelude.{All, Any}
use Rattle.std.specs.List.Sorted.{IsStrictlyIncreasing}
use Rattle.std.proofs.Math.Decide.{map_dec, dec_le, dec_lt}
use Rattle.std.proofs.lemmas.Bool.Decides.{Decides-eqb}
use Rattle.std.proofs.lemmas.List.Elements.{All-head, All-tail}
use Rattle.hk_spec.specs.declared.arguments.Arg.{Arg}
use Rattle.hk_spec.specs.declared.arguments.Arg.TheVariants as argument
use Rattle.hk_spec.specs.declared.parts.ParamKind.{ParamKind}
use Rattle.hk_spec.specs.declared.parts.ParamKind.TheVariants as param
use Rattle.hk_spec.specs.Specifications.{Specification, param_kinds}
use Rattle.hk_group.specs.Limits.{most_constraints, value_count, greatest_coefficient}
use Rattle.hk_group.specs.declared.problem.Constraint.{Constraint}
use Rattle.hk_group.specs.declared.problem.Constraint.TheVariants.{User}
use Rattle.hk_draft.specs.Faults.{IsScopeFault}
use Rattle.hk_lines.specs.Posts.{ArgText, Number, Set, Numbers, Post}
use Rattle.hk_model.specs.Postings.{spec_of, FitsKind, FitKinds, IsSmallArg, IsArgOf, AreArgsOf, PostNameFault, no_spec, other_args, no_variable, PostLimitFault, many_posts, no_post_group, large_arg, PostScopeFault, AddsPost}
use Rattle.hk_group.specs.Problems.{IsWithin}
use Rattle.hk_draft.specs.Drafts.{PlainDraft, HasGroup}
use Rattle.hk_lines.specs.Statements.{Distinct}
use Rattle.hk_draft.specs.Declares.{place_of}
use Rattle.hk_text.proofs.Deciding.{dec_both, dec_either, dec_not, dec_all, dec_rising, dec_test, dec_any}
use Rattle.hk_lines.proofs.Domains.{domain_of, same_domains}
use Rattle.hk_draft.proofs.CountDecisions.{since}
use Rattle.hk_draft.proofs.Effects.{dec_coefficient, dec_within_limit, places_of, lt_since}
use Rattle.hk_lines.proofs.Elements.{each_from_none}
use Rattle.hk_draft.proofs.OneEffect.{same_places, same_scopes, same_added_constraint, with_constraint}
use Rattle.hk_draft.proofs.Rooms.{dec_group}
use Rattle.hk_draft.proofs.StatementFaults.{dec_undeclared, dec_scope_fault}
use Rattle.hk_model.proofs.PostFaults.{same_found, all_named, named_post, large_post, small_post}

-- whether an argument has the form that a kind asks
dec_fits_kind : (kind : ParamKind) (arg : ArgText) → Dec (FitsKind kind arg)
dec_fits_kind param.Num (Number value) = yes tt
dec_fits_kind param.Set (Set set) = yes tt
dec_fits_kind param.List (Numbers numbers) = yes tt
dec_fits_kind kind arg = no (λ none. none)

-- whether arguments are as the kinds ask
pub dec_fit_kinds : (kinds : List ParamKind) (args : List ArgText) → Dec (FitKinds kinds args)
dec_fit_kinds [] [] = yes tt
dec_fit_kinds (kind ∷ kinds) (arg ∷ args) = dec_both (dec_fits_kind kind arg) (dec_fit_kinds kinds args)
dec_fit_kinds kinds args = no (λ none. none)

-- whether an argument is within its limits
pub dec_small_arg : (count : ℕ) (arg : ArgText) → Dec (IsSmallArg count arg)
dec_small_arg count (Number value) = dec_within_limit value
dec_small_arg count (Set set) = dec_both
    (dec_all (λ values. values.first ≤ values.last) (λ values. dec_le values.first values.last) set)
    (dec_all (λ values. values.last < value_count) (λ values. dec_lt values.last value_count) set)
dec_small_arg count (Numbers numbers) = dec_both (dec_all (IsWithin greatest_coefficient) dec_coefficient numbers) (dec_test _ (Decides-eqb (length numbers) count))

-- each small argument is one, and so are small arguments
arg_of : (count : ℕ) (text : ArgText) → IsSmallArg count text → (arg : Arg) × IsArgOf text arg
arg_of count (Number value) small = (argument.Num value, refl)
arg_of count (Set set) small = let domain = domain_of set small.0 small.1 in (argument.Set domain.0, domain.1)
arg_of count (Numbers numbers) small = (argument.Nums numbers, refl)

args_of : (count : ℕ) (texts : List ArgText) → All (IsSmallArg count) texts → (args : List Arg) × AreArgsOf texts args
args_of count [] small = ([], tt)
args_of count (text ∷ texts) small =
    let first = arg_of count text (All-head (IsSmallArg count) text texts small) in
    let rest = args_of count texts (All-tail (IsSmallArg count) text texts small) in
    (first.0 ∷ rest.0, (first.1, rest.1))

-- an argument is one, and so are arguments
same_arg : (text : ArgText) (a b : Arg) → IsArgOf text a → IsArgOf text b → a ≡ b
same_arg (Number value) (argument.Num m) (argument.Num n) x y = ap argument.Num (x ∙ sym y)
same_arg (Number value) (argument.Num m) b x y = absurd y
same_arg (Set set) (argument.Set bits) (argument.Set other) x y = ap argument.Set (same_domains x y)
same_arg (Set set) (argument.Set bits) b x y = absurd y
same_arg (Numbers numbers) (argument.Nums ms) (argument.Nums ns) x y = ap argument.Nums (x ∙ sym y)
same_arg (Numbers numbers) (argument.Nums ms) b x y = absurd y
same_arg text a b x y = absurd x

same_args : (texts : List ArgText) (a b : List Arg) → AreArgsOf texts a → AreArgsOf texts b → a ≡ b
same_args [] [] [] x y = refl
same_args (text ∷ texts) (a ∷ as_) (b ∷ bs) x y =
    let first = same_arg text a b x.0 y.0 in
    let rest = same_args texts as_ bs x.1 y.1 in
    λ i. first i ∷ rest i
same_args [] [] bs x y = absurd y
same_args (text ∷ texts) (a ∷ as_) bs x y = absurd y
same_args texts as_ bs x y = absurd x

-- a post has one effect
pub post_effect_one : {specs : List Specification} {post : Post} {before after other : PlainDraft} → AddsPost specs post before after → AddsPost specs post before other → after ≡ other
post_effect_one {post = post} x y =
    let spec : x.spec ≡ y.spec = same_found x.declared y.declared in
    let args : x.args ≡ y.args = same_args post.args x.args y.args x.args_are y.args_are in
    let scope : x.scope ≡ y.scope = same_scopes x.names_are y.names_are in
    let posted : User (record { spec = x.spec; args = x.args; len = length x.scope }) x.scope ≡ User (record { spec = y.spec; args = y.args; len = length y.scope }) y.scope =
    λ i. User (record { spec = spec i; args = args i; len = length (scope i) }) (scope i) in
    same_added_constraint posted x.adds y.adds

-- the specification of a post without a fault of a name, whose kinds the arguments fit
found_spec : (specs : List Specification) (before : PlainDraft) (post : Post) → (PostNameFault specs before post → ⊥) → (spec : Specification) × (spec_of specs post.spec ≡ Some spec) × FitKinds (param_kinds spec) post.args
found_spec specs before post named = by (spec_of specs post.spec) refl
  where
    by : (found : Option Specification) → spec_of specs post.spec ≡ found → (spec : Specification) × (spec_of specs post.spec ≡ Some spec) × FitKinds (param_kinds spec) post.args
    by None is = absurd (named (no_spec is))
    by (Some spec) is = (spec, is, since (dec_fit_kinds (param_kinds spec) post.args) (λ other. named (other_args is other)))

-- a post without a fault has an effect
pub post_effect : (specs : List Specification) (before : PlainDraft) (post : Post) → (PostNameFault specs before post → ⊥) → (PostLimitFault before post → ⊥) → (PostScopeFault before post → ⊥)
    → (after : PlainDraft) × AddsPost specs post before after
post_effect specs before post named fits ordered =
    let (spec, declared, fit) = found_spec specs before post named in
    let small = each_from_none (IsSmallArg (length post.names)) (λ arg. IsSmallArg (length post.names) arg → ⊥) (λ arg. since (dec_small_arg (length post.names) arg)) post.args (λ large. fits (large_arg large)) in
    let args = args_of (length post.names) post.args small in
    let scope = places_of before.names post.names (λ none. named (no_variable none)) in
    let rising = since (dec_rising scope.0) (λ falls. ordered (record { scope = scope.0; places = scope.1; falls = falls })) in
    let posted : Constraint = User (record { spec = spec; args = args.0; len = length scope.0 }) scope.0 in (
      with_constraint before posted,
      record {
        spec = spec;
        declared = declared;
        fit = fit;
        small = small;
        args = args.0;
        args_are = args.1;
        scope = scope.0;
        names_are = record { declared = scope.1; rising = rising };
        adds = record { room = lt_since (length before.constraints) most_constraints (λ many. fits (many_posts many)); group = since (dec_group before) (λ none. fits (no_post_group none)); added = refl };
      },
    )

-- a post with a fault has no effect
pub named_no_post : {specs : List Specification} {post : Post} {before after : PlainDraft} → PostNameFault specs before post → AddsPost specs post before after → ⊥
named_no_post {specs = specs} {post = post} {before = before} fault adds = named_post specs before post adds.spec adds.declared adds.fit adds.scope adds.names_are.declared fault

pub limited_no_post : {specs : List Specification} {post : Post} {before after : PlainDraft} → PostLimitFault before post → AddsPost specs post before after → ⊥
limited_no_post {post = post} {before = before} fault adds = small_post before post (adds.adds.room, adds.adds.group) adds.small fault

pub unordered_no_post : {specs : List Specification} {post : Post} {before after : PlainDraft} → PostScopeFault before post → AddsPost specs post before after → ⊥
unordered_no_post fault adds = fault.falls (subst IsStrictlyIncreasing (same_places adds.scope fault.scope (sym adds.names_are.declared ∙ fault.places)) adds.names_are.rising)

-- the faults of a post are decided
pub dec_post_name : (specs : List Specification) (before : PlainDraft) (post : Post) → Dec (PostNameFault specs before post)
dec_post_name specs before post = by (spec_of specs post.spec) refl (dec_undeclared before.names post.names)
  where
    with_spec : (spec : Specification) → spec_of specs post.spec ≡ Some spec → (Any (λ name. place_of before.names name ≡ None) post.names → ⊥) → Dec (FitKinds (param_kinds spec) post.args) → Dec (PostNameFault specs before post)
    with_spec spec is all (no other) = yes (other_args is other)
    with_spec spec is all (yes fit) = no (all_named specs before post spec is fit all)

    by : (found : Option Specification) → spec_of specs post.spec ≡ found → Dec (Any (λ name. place_of before.names name ≡ None) post.names) → Dec (PostNameFault specs before post)
    by None is declared = yes (no_spec is)
    by (Some spec) is (yes some) = yes (no_variable some)
    by (Some spec) is (no all) = with_spec spec is all (dec_fit_kinds (param_kinds spec) post.args)

pub dec_post_limit : (before : PlainDraft) (post : Post) → Dec (PostLimitFault before post)
dec_post_limit before post = map_dec (large_post before post) back (dec_either
    (dec_not (dec_both (dec_lt (length before.constraints) most_constraints) (dec_group before)))
    (dec_any (λ arg. IsSmallArg (length post.names) arg → ⊥) (λ arg. dec_not (dec_small_arg (length post.names) arg)) post.args))
  where
    back : PostLimitFault before post → ((length before.constraints < most_constraints) × HasGroup before → ⊥) ⊎ Any (λ arg. IsSmallArg (length post.names) arg → ⊥) post.args
    back (many_posts many) = inl (λ room. let less = room.0 in omega (arith, less, many))
    back (no_post_group none) = inl (λ room. none room.1)
    back (large_arg large) = inr large

pub dec_post_scope : (before : PlainDraft) (post : Post) → Dec (PostScopeFault before post)
dec_post_scope before post = map_dec
    (λ (fault : IsScopeFault before (Distinct post.names)). record { scope = fault.scope; places = fault.places; falls = fault.falls })
    (λ fault. record { scope = fault.scope; places = fault.places; falls = fault.falls })
    (dec_scope_fault before (Distinct post.names))
