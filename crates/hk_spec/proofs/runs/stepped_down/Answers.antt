use Rattle.std.proofs.Common.{ap, sym, ◌∙◌, subst}
use Rattle.hk_kinds.specs.Parts.{with_part}
use Rattle.hk_kinds.specs.Shapes.{HasShape}
use Rattle.hk_spec.specs.Specifications.{IsBound, down_shape}
use Rattle.hk_spec.specs.Steps.{down_step}
use Rattle.hk_spec.proofs.StepLaws.{down_room_alone, down_step_alone, down_step_has_shape}
use Rattle.hk_spec.proofs.runs.stepped_down.Goals as goal

pub write_down-requires-clause-from : goal.write_down-requires-clause-from
write_down-requires-clause-from c = subst (HasShape (down_shape c.args.bound.now.spec)) (sym c.view.ensures) c.requires.shape

pub write_down-requires-clause-room : goal.write_down-requires-clause-room
write_down-requires-clause-room c = down_room_alone c.args.bound.now _ (subst (HasShape (down_shape c.args.bound.now.spec)) (sym c.in_ok-next.ensures) c.requires.shape)

pub returns-clause-step : goal.returns-clause-step
returns-clause-step c =
    let bound : IsBound c.args.bound.now = subst IsBound c.bound.view_is c.bound.invariant in
    c.write_down.ensures ∙ (ap (λ state. with_part 0 (down_step c.args.bound.now c.args.position c.args.value state) c.in_ok-next.next) c.view.ensures ∙ down_step_alone c.args.bound.now c.args.position c.args.value c.args.down.now c.in_ok-next.next bound (subst (HasShape (down_shape c.args.bound.now.spec)) (sym c.in_ok-next.ensures) c.requires.shape))

pub returns-clause-shape : goal.returns-clause-shape
returns-clause-shape c =
    let bound : IsBound c.args.bound.now = subst IsBound c.bound.view_is c.bound.invariant in
    subst (HasShape (down_shape c.args.bound.now.spec)) (sym (returns-clause-step c)) (down_step_has_shape c.args.bound.now c.args.position c.args.value c.args.down.now bound c.requires.position c.requires.value c.requires.shape)
