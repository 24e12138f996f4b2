-- The arguments that a specification takes.
use Rattle.std.specs.Prelude.{◌≡◌, ℕ, ℤ, pos, negsuc, ◌≤ℤ◌, List, [], ◌∷◌, length, All}
use Rattle.hk_kinds.specs.Limits.{IsWithinLimit}
use Rattle.hk_kinds.specs.Sets.{IsSet}
use Rattle.hk_spec.specs.declared.arguments.Arg.{Arg}
use Rattle.hk_spec.specs.declared.arguments.Arg.TheVariants as argument
use Rattle.hk_spec.specs.declared.parts.ParamKind.{ParamKind}
use Rattle.hk_spec.specs.declared.parts.ParamKind.TheVariants as kind

-- a number of a list argument lies in -1,000,000..1,000,000
pub record IsCoefficient (n : ℤ) : Type 0 where
  pub least : negsuc 999999 ≤ℤ n
  pub most : n ≤ℤ pos 1000000

-- an argument of the kind of its parameter: a number within the limit, a set, or one coefficient a position
pub data IsArgument (positions : ℕ) : ParamKind → Arg → Type 0 where
  is_number : {n : ℤ} → IsWithinLimit n → IsArgument positions kind.Num (argument.Num n)
  is_set : {set : ℕ} → IsSet set → IsArgument positions kind.Set (argument.Set set)
  is_list : {numbers : List ℤ} → length numbers ≡ positions → All IsCoefficient numbers → IsArgument positions kind.List (argument.Nums numbers)

-- the arguments are one for each parameter, of its kind
pub data AreArguments (positions : ℕ) : List ParamKind → List Arg → Type 0 where
  no_arguments : AreArguments positions [] []
  more_arguments : {param : ParamKind} {arg : Arg} {params : List ParamKind} {args : List Arg} → IsArgument positions param arg → AreArguments positions params args → AreArguments positions (param ∷ params) (arg ∷ args)
