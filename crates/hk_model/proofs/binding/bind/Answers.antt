use Rattle.std.proofs.Common.{sym, ◌∙◌, subst}
use Rattle.hk_spec.specs.Specifications.{Specification, IsSpecification, param_kinds}
use Rattle.hk_model.specs.Postings.{FitKinds}
use Rattle.hk_lines.specs.PostShapes.{args_of}
use Rattle.hk_model.proofs.Bindings.{bound_arguments}
use Rattle.hk_model.proofs.binding.bind.Goals as goal

pub new-requires : goal.new-requires
new-requires c =
    let fit : FitKinds (param_kinds c.in-Ok.spec) (args_of c.args.args.now) = subst (λ (s : Specification). FitKinds (param_kinds s) (args_of c.args.args.now)) (sym c.in-Ok.ensures) c.requires.fit in
    record {
      few = c.ranges.len.fits;
      rules = subst IsSpecification (c.spec.view_is ∙ sym c.in-Ok.ensures) c.spec.invariant;
      arguments = bound_arguments c.args.len (param_kinds c.in-Ok.spec) (args_of c.args.args.now) c.in_ok-args.args fit c.requires.small c.in_ok-args.ensures;
    }
