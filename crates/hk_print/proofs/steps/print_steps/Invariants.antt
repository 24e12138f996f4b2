use Rattle.hk_text.proofs.Appending.{Appended}
use Rattle.hk_print.specs.Printed.{lines_text, step_lines}
use Rattle.hk_print.specs.Expressions.{naming_of}
use Rattle.hk_print.proofs.steps.print_steps.Given as goal

-- the lines of the properties and steps so far have been written
abbrev pub invariant-loop-property : goal.invariant-loop-property
invariant-loop-property l =
    Appended l.fn.out l.out (lines_text (step_lines (naming_of l.spec) l.properties l.steps)) (lines_text (step_lines (naming_of l.spec) l.property-iterator.a.rest.now l.property-iterator.b.rest.now))
