use Rattle.std.proofs.Common.{◌≡◌, ◌≤◌, length, drop, arith, ap, sym, ◌∙◌, subst}
use Rattle.hk_spec.specs.Specifications.{BoundSpecification, Specification, IsBound}
use Rattle.hk_spec.proofs.StepLaws.{length-down_step}
use Rattle.hk_spec.proofs.bindings.Bound.write_down.Goals as goal

pub overflow_cast-setting : goal.overflow_cast-setting
overflow_cast-setting c =
    let bound : IsBound c.args.self.now = subst IsBound c.self.view_is c.self.invariant in
    let few = bound.few in
    grind (arith, few, c.requires.position)

pub write_steps-requires : goal.write_steps-requires
write_steps-requires c =
    let bound : IsBound c.args.self.now = subst IsBound c.self.view_is c.self.invariant in
    let steps : c.as_slice-2.result.now ≡ c.args.self.now.spec.down_step = c.as_slice-2.ensures ∙ (ap (λ (s : Specification). s.down_step) c.spec.view_is ∙ ap (λ (b : BoundSpecification). b.spec.down_step) c.self.view_is) in
    subst (λ n. n ≤ length (drop c.args.first c.args.to.now)) (sym (ap length steps ∙ length-down_step c.args.self.now bound)) c.requires.room
