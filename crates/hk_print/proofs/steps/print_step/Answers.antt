use Rattle.std.proofs.Common.{codes}
use Rattle.hk_text.proofs.Appending.{OnErr-always}
use Rattle.hk_print.specs.Printed.{step_pieces}
use Rattle.hk_print.specs.Expressions.{naming_of}
use Rattle.hk_print.proofs.Lines.{line_name, line_rest}
use Rattle.hk_print.proofs.steps.print_step.Goals as goal

pub returns-in_err-print_word-clause-err : goal.returns-in_err-print_word-clause-err
returns-in_err-print_word-clause-err c =
    let more = step_pieces (naming_of c.args.spec.now) c.args.step.now in
    OnErr-always c.from_residual-in_err-print_word.result
    (line_name (codes "step") c.args.property.now.name c.as_slice.result.now more c.args.out.now c.push_all.new.self c.print_word.new.out c.as_slice.ensures c.in_ok-push_all.ensures.ok c.in_err-print_word.ensures.err)

pub returns-in_err-print_next-clause-err : goal.returns-in_err-print_next-clause-err
returns-in_err-print_next-clause-err c =
    let more = step_pieces (naming_of c.args.spec.now) c.args.step.now in
    OnErr-always c.from_residual-in_err-print_next.result
    (line_rest (codes "step") c.args.property.now.name c.as_slice.result.now more c.args.out.now c.push_all.new.self c.print_word.new.out c.print_next.new.out c.as_slice.ensures c.in_ok-push_all.ensures.ok c.in_ok-print_word.ensures.ok c.in_err-print_next.ensures.err)
