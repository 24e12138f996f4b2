use Rattle.std.proofs.Common.{◌≡◌, [], inl, inr, subst}
use Rattle.hk_text.proofs.Appending.{Appended, Appended-all, AppendsFront-piece, OnErr-always}
use Rattle.hk_print.specs.Printed.{lines_text, step_line, step_lines}
use Rattle.hk_print.specs.Expressions.{naming_of}
use Rattle.hk_print.specs.Pieces.{line_text}
use Rattle.hk_print.proofs.Lines.{steps_end, steps_first}
use Rattle.hk_print.proofs.steps.print_steps.Goals as goal

pub returns-in_err-print_step-clause-err : goal.returns-in_err-print_step-clause-err
returns-in_err-print_step-clause-err c =
    let naming = naming_of c.args.spec.now in
    let property = c.in-Some.property.now in
    let step = c.in-Some.step.now in
    let whole = lines_text (step_lines naming c.args.properties.now c.args.steps.now) in
    let left = lines_text (step_lines naming c.next.new.self.a.rest.now c.next.new.self.b.rest.now) in
    let first =
    steps_first naming c.loop-property.property-iterator.a.rest.now c.next.new.self.a.rest.now c.loop-property.property-iterator.b.rest.now c.next.new.self.b.rest.now property step
    c.in-Some.ensures.steps.0 c.in-Some.ensures.steps.1 in
    let before = subst (Appended c.args.out.now c.loop-property.out whole) first c.loop-property.invariant in
    OnErr-always c.from_residual.result
    (AppendsFront-piece c.args.out.now c.loop-property.out c.print_step.new.out whole (line_text (step_line naming property step)) left before c.in_err-print_step.ensures.err)

pub returns-clause-ok : goal.returns-clause-ok
returns-clause-ok c =
    let naming = naming_of c.args.spec.now in
    let properties = c.loop-property.property-iterator.a.rest.now in
    let steps = c.loop-property.property-iterator.b.rest.now in
    let whole = lines_text (step_lines naming c.args.properties.now c.args.steps.now) in
    let ended : lines_text (step_lines naming properties steps) ≡ [] =
    elim c.in-None.ensures.steps [ inl named ↦ steps_end naming properties steps (inl named.1.0) | inr stepped ↦ steps_end naming properties steps (inr stepped.1.0) ] in
    Appended-all c.args.out.now c.loop-property.out whole (subst (Appended c.args.out.now c.loop-property.out whole) ended c.loop-property.invariant)
