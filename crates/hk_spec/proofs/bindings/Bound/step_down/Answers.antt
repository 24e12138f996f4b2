use Rattle.std.proofs.Common.{◌≡◌, ◌≤◌, length, drop, ap, sym, ◌∙◌, subst}
use Rattle.hk_kinds.specs.Parts.{with_part}
use Rattle.hk_kinds.specs.Shapes.{HasShape}
use Rattle.hk_spec.specs.Specifications.{BoundSpecification, Specification, IsBound, down_shape}
use Rattle.hk_spec.specs.Steps.{down_part, down_step}
use Rattle.hk_spec.proofs.StepLaws.{down_room, down_part_has_shape, same_part}
use Rattle.hk_spec.proofs.bindings.Bound.step_down.Goals as goal

pub part-part-requires : goal.part-part-requires
part-part-requires c =
    let declared : c.as_slice.result.now ≡ c.args.self.now.spec.down = c.as_slice.ensures ∙ (ap (λ (s : Specification). s.down) c.spec.view_is ∙ ap (λ (b : BoundSpecification). b.spec.down) c.self.view_is) in
    subst (λ n. n ≤ length (drop c.args.first c.view.result)) (sym (ap length declared)) (subst (λ state. length c.args.self.now.spec.down ≤ length (drop c.args.first state)) (sym c.view.ensures) (down_room c.args.self.now c.args.first c.args.from.now c.requires.from))

pub write_down-requires-clause-from : goal.write_down-requires-clause-from
write_down-requires-clause-from c =
    let declared : c.as_slice.result.now ≡ c.args.self.now.spec.down = c.as_slice.ensures ∙ (ap (λ (s : Specification). s.down) c.spec.view_is ∙ ap (λ (b : BoundSpecification). b.spec.down) c.self.view_is) in
    subst (HasShape (down_shape c.args.self.now.spec)) (sym (c.part-part.ensures ∙ same_part c.args.first declared c.view.ensures)) c.requires.from

pub write_down-requires-clause-room : goal.write_down-requires-clause-room
write_down-requires-clause-room c = down_room c.args.self.now c.args.first c.args.to.now c.requires.to

pub returns-clause-step : goal.returns-clause-step
returns-clause-step c =
    let declared : c.as_slice.result.now ≡ c.args.self.now.spec.down = c.as_slice.ensures ∙ (ap (λ (s : Specification). s.down) c.spec.view_is ∙ ap (λ (b : BoundSpecification). b.spec.down) c.self.view_is) in
    c.write_down.ensures ∙ ap (λ state. with_part c.args.first (down_step c.args.self.now c.args.at c.args.value state) c.args.to.now) (c.part-part.ensures ∙ same_part c.args.first declared c.view.ensures)

pub returns-clause-shape : goal.returns-clause-shape
returns-clause-shape c =
    let bound : IsBound c.args.self.now = subst IsBound c.self.view_is c.self.invariant in
    subst (λ to. HasShape (down_shape c.args.self.now.spec) (down_part c.args.self.now c.args.first to)) (sym (returns-clause-step c)) (down_part_has_shape c.args.self.now c.args.at c.args.value c.args.first _ c.args.to.now bound c.requires.position c.requires.value c.requires.from c.requires.to)
