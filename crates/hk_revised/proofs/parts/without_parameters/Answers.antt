use Rattle.std.proofs.Common.{◌≡◌, ℕ, ◌<◌, List, [], ◌∷◌, length, map, arith, subst}
use Rattle.hk_spec.specs.Arguments.{AreArguments, no_arguments}
use Rattle.hk_spec.specs.Specifications.{Specification, IsSpecification}
use Rattle.hk_spec.specs.declared.arguments.Arg.{Arg}
use Rattle.hk_spec.specs.declared.parts.Param.{Param}
use Rattle.hk_revised.proofs.parts.without_parameters.Goals as goal

-- where there is no parameter, no argument is asked
no_args : (len : ℕ) (params : List Param) (args : List Arg) → length params < 1 → args ≡ [] → AreArguments len (map (λ (p : Param). p.kind) params) args
no_args len [] args few none = rw none no_arguments
no_args len (p ∷ params) args few none = absurd (omega arith)

pub new-requires-2 : goal.new-requires-2
new-requires-2 c =
    let few : length c.args.spec.params < 1 = subst (λ (s : Specification). length s.params < 1) c.spec.view_is (rw (← c.as_slice.ensures) c.in-empty.len_below) in
    record {
      few = omega arith;
      rules = subst IsSpecification c.spec.view_is c.spec.invariant;
      arguments = no_args _ _ _ few c.new.ensures;
    }
