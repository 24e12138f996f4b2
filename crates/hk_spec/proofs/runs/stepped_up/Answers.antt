use Rattle.std.proofs.Common.{ap, sym, ◌∙◌, subst}
use Rattle.hk_kinds.specs.Parts.{with_part}
use Rattle.hk_kinds.specs.Shapes.{HasShape}
use Rattle.hk_spec.specs.Specifications.{IsBound, up_shape}
use Rattle.hk_spec.specs.Steps.{up_step}
use Rattle.hk_spec.proofs.StepLaws.{up_room_alone, up_step_alone, up_step_has_shape}
use Rattle.hk_spec.proofs.runs.stepped_up.Goals as goal

pub write_up-requires-clause-from : goal.write_up-requires-clause-from
write_up-requires-clause-from c = subst (HasShape (up_shape c.args.bound.now.spec)) (sym c.view.ensures) c.requires.shape

pub write_up-requires-clause-room : goal.write_up-requires-clause-room
write_up-requires-clause-room c = up_room_alone c.args.bound.now _ (subst (HasShape (up_shape c.args.bound.now.spec)) (sym c.in_ok-next.ensures) c.requires.shape)

pub returns-clause-step : goal.returns-clause-step
returns-clause-step c =
    let bound : IsBound c.args.bound.now = subst IsBound c.bound.view_is c.bound.invariant in
    c.write_up.ensures ∙ (ap (λ state. with_part 0 (up_step c.args.bound.now c.args.position c.args.value state) c.in_ok-next.next) c.view.ensures ∙ up_step_alone c.args.bound.now c.args.position c.args.value c.args.up.now c.in_ok-next.next bound (subst (HasShape (up_shape c.args.bound.now.spec)) (sym c.in_ok-next.ensures) c.requires.shape))

pub returns-clause-shape : goal.returns-clause-shape
returns-clause-shape c =
    let bound : IsBound c.args.bound.now = subst IsBound c.bound.view_is c.bound.invariant in
    subst (HasShape (up_shape c.args.bound.now.spec)) (sym (returns-clause-step c)) (up_step_has_shape c.args.bound.now c.args.position c.args.value c.args.up.now bound c.requires.position c.requires.value c.requires.shape)
