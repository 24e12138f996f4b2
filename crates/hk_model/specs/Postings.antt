-- What a post adds to a problem, and its faults.
use Rattle.std.specs.Prelude.{◌≡◌, ℕ, ◌<◌, ◌≤◌, List, [], ◌∷◌, length, map, All, Any, find, bytes_eq, Option, None, Some}
use Rattle.std.specs.List.Sorted.{IsStrictlyIncreasing}
use Rattle.hk_spec.specs.declared.arguments.Arg.{Arg}
use Rattle.hk_spec.specs.declared.arguments.Arg.TheVariants as argument
use Rattle.hk_spec.specs.declared.parts.ParamKind.{ParamKind}
use Rattle.hk_spec.specs.declared.parts.ParamKind.TheVariants as param
use Rattle.hk_spec.specs.Specifications.{Specification, param_kinds}
use Rattle.hk_group.specs.Limits.{most_constraints, value_count, greatest_coefficient}
use Rattle.hk_base.specs.Limits.{number_limit}
use Rattle.hk_group.specs.declared.problem.Constraint.TheVariants.{User}
use Rattle.hk_group.specs.Problems.{IsWithin}
use Rattle.hk_draft.specs.Drafts.{PlainDraft, HasGroup}
use Rattle.hk_draft.specs.Declares.{place_of, AreNamesOf, AddsConstraint}
use Rattle.hk_lines.specs.ValueSets.{IsSetOf}
use Rattle.hk_lines.specs.Posts.{ArgText, Number, Numbers, Post, Set}

-- the specification of this name, where there is one
abbrev pub spec_of : List Specification → List ℕ → Option Specification
spec_of specs name = find (λ (s : Specification). bytes_eq name s.name) specs

-- an argument has the form that a parameter of a kind asks
abbrev pub FitsKind : ParamKind → ArgText → Type 0
FitsKind param.Num (Number value) = Unit {0}
FitsKind param.Set (Set set) = Unit {0}
FitsKind param.List (Numbers numbers) = Unit {0}
FitsKind _ _ = ⊥

-- the arguments are one for each parameter, in the form that its kind asks
abbrev pub FitKinds : List ParamKind → List ArgText → Type 0
FitKinds [] [] = Unit {0}
FitKinds (kind ∷ kinds) (arg ∷ args) = FitsKind kind arg × FitKinds kinds args
FitKinds _ _ = ⊥

-- an argument is within its limits, on a scope of so many variables: a number of at most 1,000,000,000,000 in size; a set without a value above 127 and without a turned range; for each variable a number of at most 1,000,000 in size
abbrev pub IsSmallArg : ℕ → ArgText → Type 0
IsSmallArg count (Number value) = IsWithin number_limit value
IsSmallArg count (Set set) = All (λ values. values.first ≤ values.last) set × All (λ values. values.last < value_count) set
IsSmallArg count (Numbers numbers) = All (IsWithin greatest_coefficient) numbers × (length numbers ≡ count)

-- the argument that is written so
abbrev pub IsArgOf : ArgText → Arg → Type 0
IsArgOf (Number value) (argument.Num n) = n ≡ value
IsArgOf (Set set) (argument.Set bits) = IsSetOf set bits
IsArgOf (Numbers numbers) (argument.Nums ns) = ns ≡ numbers
IsArgOf _ _ = ⊥

-- the arguments that are written so
abbrev pub AreArgsOf : List ArgText → List Arg → Type 0
AreArgsOf [] [] = Unit {0}
AreArgsOf (text ∷ texts) (arg ∷ args) = IsArgOf text arg × AreArgsOf texts args
AreArgsOf _ _ = ⊥

-- the specification isn't declared, or its arguments are others in number or form, or a name of the scope isn't declared
pub data PostNameFault (specs : List Specification) (before : PlainDraft) (post : Post) : Type 0 where
  no_spec : spec_of specs post.spec ≡ None → PostNameFault specs before post
  other_args : {s : Specification} → spec_of specs post.spec ≡ Some s → (FitKinds (param_kinds s) post.args → ⊥) → PostNameFault specs before post
  no_variable : Any (λ name. place_of before.names name ≡ None) post.names → PostNameFault specs before post

-- there is no room for a constraint or for the group that it begins, or an argument passes its limit
pub data PostLimitFault (before : PlainDraft) (post : Post) : Type 0 where
  many_posts : most_constraints ≤ length before.constraints → PostLimitFault before post
  no_post_group : (HasGroup before → ⊥) → PostLimitFault before post
  large_arg : Any (λ arg. IsSmallArg (length post.names) arg → ⊥) post.args → PostLimitFault before post

-- the names of a scope don't stand strictly in the order of their declaration
pub record PostScopeFault (before : PlainDraft) (post : Post) : Type 0 where
  pub scope : List ℕ
  pub places : map (place_of before.names) post.names ≡ map Some scope
  pub falls : IsStrictlyIncreasing scope → ⊥

-- a new constraint: that the specification accepts the values of the scope
pub record AddsPost (specs : List Specification) (post : Post) (before after : PlainDraft) : Type 0 where
  pub spec : Specification
  pub declared : spec_of specs post.spec ≡ Some spec
  pub fit : FitKinds (param_kinds spec) post.args
  pub small : All (IsSmallArg (length post.names)) post.args
  pub args : List Arg
  pub args_are : AreArgsOf post.args args
  pub scope : List ℕ
  pub names_are : AreNamesOf post.names before scope
  pub adds : AddsConstraint (User (record { spec = spec; args = args; len = length scope }) scope) before after
