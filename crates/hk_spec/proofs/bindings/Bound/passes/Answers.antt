use Rattle.std.proofs.Common.{◌≡◌, ◌≤◌, length, drop, ap, sym, ◌∙◌, subst}
use Rattle.std.specs.Int.{w64}
use Rattle.std.proofs.lemmas.Int.{to_z-of_z}
use Rattle.hk_kinds.specs.Shapes.{HasShape}
use Rattle.hk_spec.specs.Specifications.{BoundSpecification, Specification, down_shape, up_shape}
use Rattle.hk_spec.proofs.StepLaws.{down_room, up_room, same_part, same_test}
use Rattle.hk_spec.proofs.bindings.Bound.passes.Goals as goal

pub part-down-requires : goal.part-down-requires
part-down-requires c =
    let declared : c.as_slice.result.now ≡ c.args.self.now.spec.down = c.as_slice.ensures ∙ (ap (λ (s : Specification). s.down) c.spec.view_is ∙ ap (λ (b : BoundSpecification). b.spec.down) c.self.view_is) in
    subst (λ n. n ≤ length (drop c.args.first_down c.view.result)) (sym (ap length declared)) (subst (λ state. length c.args.self.now.spec.down ≤ length (drop c.args.first_down state)) (sym c.view.ensures) (down_room c.args.self.now c.args.first_down c.args.down.now c.requires.down))

pub part-up-requires : goal.part-up-requires
part-up-requires c =
    let declared : c.as_slice-2.result.now ≡ c.args.self.now.spec.up = c.as_slice-2.ensures ∙ (ap (λ (s : Specification). s.up) c.spec.view_is ∙ ap (λ (b : BoundSpecification). b.spec.up) c.self.view_is) in
    subst (λ n. n ≤ length (drop c.args.first_up c.view-2.result)) (sym (ap length declared)) (subst (λ state. length c.args.self.now.spec.up ≤ length (drop c.args.first_up state)) (sym c.view-2.ensures) (up_room c.args.self.now c.args.first_up c.args.up.now c.requires.up))

pub passes_view-requires-clause-down : goal.passes_view-requires-clause-down
passes_view-requires-clause-down c =
    let declared : c.as_slice.result.now ≡ c.args.self.now.spec.down = c.as_slice.ensures ∙ (ap (λ (s : Specification). s.down) c.spec.view_is ∙ ap (λ (b : BoundSpecification). b.spec.down) c.self.view_is) in
    subst (HasShape (down_shape c.args.self.now.spec)) (sym (c.part-down.ensures ∙ same_part c.args.first_down declared c.view.ensures)) c.requires.down

pub passes_view-requires-clause-up : goal.passes_view-requires-clause-up
passes_view-requires-clause-up c =
    let declared : c.as_slice-2.result.now ≡ c.args.self.now.spec.up = c.as_slice-2.ensures ∙ (ap (λ (s : Specification). s.up) c.spec.view_is ∙ ap (λ (b : BoundSpecification). b.spec.up) c.self.view_is) in
    subst (HasShape (up_shape c.args.self.now.spec)) (sym (c.part-up.ensures ∙ same_part c.args.first_up declared c.view-2.ensures)) c.requires.up

pub returns : goal.returns
returns c =
    let down_declared : c.as_slice.result.now ≡ c.args.self.now.spec.down = c.as_slice.ensures ∙ (ap (λ (s : Specification). s.down) c.spec.view_is ∙ ap (λ (b : BoundSpecification). b.spec.down) c.self.view_is) in
    let up_declared : c.as_slice-2.result.now ≡ c.args.self.now.spec.up = c.as_slice-2.ensures ∙ (ap (λ (s : Specification). s.up) c.spec.view_is ∙ ap (λ (b : BoundSpecification). b.spec.up) c.self.view_is) in
    c.passes_view.ensures ∙ same_test c.args.self.now c.args.at c.args.value _ _ _ _ _ _ (c.part-down.ensures ∙ same_part c.args.first_down down_declared c.view.ensures) (c.part-up.ensures ∙ same_part c.args.first_up up_declared c.view-2.ensures) (to_z-of_z w64 c.args.best c.ranges.best)
