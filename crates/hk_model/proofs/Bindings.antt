-- Arguments that fit the parameters and are within their limits are ones that the specification may be bound to.
use Rattle.std.proofs.Common.{ℕ, List, [], ◌∷◌, length, sym, ap, subst, ◌∙◌}
use Rattle.std.specs.Prelude.{All}
use Rattle.std.proofs.lemmas.List.Elements.{All-head, All-tail, All-weaker}
use Rattle.hk_kinds.specs.Limits.{IsWithinLimit}
use Rattle.hk_spec.specs.Arguments.{IsCoefficient, IsArgument, is_number, is_set, is_list, AreArguments, no_arguments, more_arguments}
use Rattle.hk_spec.specs.declared.arguments.Arg.{Arg}
use Rattle.hk_spec.specs.declared.arguments.Arg.TheVariants as argument
use Rattle.hk_spec.specs.declared.parts.ParamKind.{ParamKind}
use Rattle.hk_spec.specs.declared.parts.ParamKind.TheVariants as param
use Rattle.hk_group.specs.Limits.{greatest_coefficient}
use Rattle.hk_lines.specs.Posts.{ArgText, Number, Set, Numbers}
use Rattle.hk_model.specs.Postings.{FitsKind, FitKinds, IsSmallArg, IsArgOf, AreArgsOf}
use Rattle.hk_group.specs.Problems.{IsWithin}

-- a small argument of a kind is one of that kind
bound_argument : (count : ℕ) (kind : ParamKind) (text : ArgText) (arg : Arg) → FitsKind kind text → IsSmallArg count text → IsArgOf text arg → IsArgument count kind arg
bound_argument count param.Num (Number value) (argument.Num n) fit small is = is_number (subst IsWithinLimit (sym is) (record { least = small.above; most = small.below }))
bound_argument count param.Num (Number value) arg fit small is = absurd is
bound_argument count param.Set (Set set) (argument.Set bits) fit small is = is_set is.small
bound_argument count param.Set (Set set) arg fit small is = absurd is
bound_argument count param.List (Numbers numbers) (argument.Nums ns) fit small is = is_list (ap length is ∙ small.1)
    (subst (All IsCoefficient) (sym is) (All-weaker (IsWithin greatest_coefficient) IsCoefficient (λ n within. record { least = within.above; most = within.below }) numbers small.0))
bound_argument count param.List (Numbers numbers) arg fit small is = absurd is
bound_argument count kind text arg fit small is = absurd fit

-- small arguments of the kinds are ones of those kinds
pub bound_arguments : (count : ℕ) (kinds : List ParamKind) (texts : List ArgText) (args : List Arg) → FitKinds kinds texts → All (IsSmallArg count) texts → AreArgsOf texts args → AreArguments count kinds args
bound_arguments count [] [] [] fit small are = no_arguments
bound_arguments count (kind ∷ kinds) (text ∷ texts) (arg ∷ args) fit small are = more_arguments
    (bound_argument count kind text arg fit.0 (All-head (IsSmallArg count) text texts small) are.0)
    (bound_arguments count kinds texts args fit.1 (All-tail (IsSmallArg count) text texts small) are.1)
bound_arguments count [] [] args fit small are = absurd are
bound_arguments count (kind ∷ kinds) (text ∷ texts) args fit small are = absurd are
bound_arguments count kinds texts args fit small are = absurd fit
