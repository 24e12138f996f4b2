use Rattle.std.proofs.Common.{◌++◌, ap, subst, ◌∙◌}
use Rattle.hk_base.specs.Lists.{AppendsFront}
use Rattle.hk_spec.specs.Specifications.{Specification}
use Rattle.hk_text.proofs.Appending.{AppendsFront-after, AppendsFront-first, OnErr-always, OnErr-then}
use Rattle.hk_print.specs.Printed.{lines_text, step_lines, test_line}
use Rattle.hk_print.specs.Expressions.{naming_of}
use Rattle.hk_print.specs.Pieces.{line_text}
use Rattle.hk_print.proofs.Lines.{lines_after, lines_first, steps_same}
use Rattle.hk_print.proofs.blocks.print_rules.Goals as goal

pub returns-in_err-print_test_line-clause-err : goal.returns-in_err-print_test_line-clause-err
returns-in_err-print_test_line-clause-err c =
    let s = c.args.spec.now in
    let more = step_lines (naming_of s) s.down s.down_step ++ step_lines (naming_of s) s.up s.up_step in
    OnErr-always c.from_residual.result (AppendsFront-first c.args.out.now c.print_test_line.new.out (line_text (test_line s)) (lines_text more) c.in_err-print_test_line.ensures.err)

pub returns-in_err-print_steps-clause-err : goal.returns-in_err-print_steps-clause-err
returns-in_err-print_steps-clause-err c =
    let s = c.args.spec.now in
    let down = step_lines (naming_of s) s.down s.down_step in
    let up = step_lines (naming_of s) s.up s.up_step in
    let lines =
    steps_same (naming_of s) c.as_slice.result.now s.down c.as_slice-2.result.now s.down_step
    (c.as_slice.ensures ∙ ap (λ (s : Specification). s.down) c.spec.view_is)
    (c.as_slice-2.ensures ∙ ap (λ (s : Specification). s.down_step) c.spec.view_is) in
    OnErr-always c.from_residual-in_err-print_steps.result
    (AppendsFront-after c.args.out.now c.print_test_line.new.out c.print_steps.new.out (line_text (test_line s)) (lines_text (down ++ up)) c.in_ok-print_test_line.ensures.ok
    (lines_first c.print_test_line.new.out c.print_steps.new.out down up
    (subst (λ all. AppendsFront c.print_test_line.new.out c.print_steps.new.out (lines_text all)) lines c.in_err-print_steps.ensures.err)))

pub returns-clause-err : goal.returns-clause-err
returns-clause-err c =
    let s = c.args.spec.now in
    let down = step_lines (naming_of s) s.down s.down_step in
    let up = step_lines (naming_of s) s.up s.up_step in
    let done =
    steps_same (naming_of s) c.as_slice.result.now s.down c.as_slice-2.result.now s.down_step
    (c.as_slice.ensures ∙ ap (λ (s : Specification). s.down) c.spec.view_is)
    (c.as_slice-2.ensures ∙ ap (λ (s : Specification). s.down_step) c.spec.view_is) in
    let last =
    steps_same (naming_of s) c.as_slice-3.result.now s.up c.as_slice-4.result.now s.up_step
    (c.as_slice-3.ensures ∙ ap (λ (s : Specification). s.up) c.spec.view_is)
    (c.as_slice-4.ensures ∙ ap (λ (s : Specification). s.up_step) c.spec.view_is) in
    OnErr-then c.print_steps-2.result
    (λ part.
    AppendsFront-after c.args.out.now c.print_test_line.new.out c.print_steps-2.new.out (line_text (test_line s)) (lines_text (down ++ up)) c.in_ok-print_test_line.ensures.ok
    (lines_after c.print_test_line.new.out c.print_steps.new.out c.print_steps-2.new.out down up (c.in_ok-print_steps.ensures.ok ∙ ap (λ all. c.print_test_line.new.out ++ lines_text all) done)
    (subst (λ all. AppendsFront c.print_steps.new.out c.print_steps-2.new.out (lines_text all)) last part)))
    c.print_steps-2.ensures.err
