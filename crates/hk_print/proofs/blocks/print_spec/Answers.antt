use Rattle.std.proofs.Common.{[], ◌∷◌, ◌++◌, codes}
use Rattle.hk_text.proofs.Appending.{OnErr-always}
use Rattle.hk_print.specs.Printed.{declaration_lines, rule_lines}
use Rattle.hk_print.specs.Pieces.{piece}
use Rattle.hk_print.proofs.Lines.{lines_after, lines_first}
use Rattle.hk_print.proofs.blocks.print_spec.Goals as goal

pub returns-in_err-print_declarations-clause-err : goal.returns-in_err-print_declarations-clause-err
returns-in_err-print_declarations-clause-err c =
    let s = c.args.spec.now in
    OnErr-always c.from_residual.result
    (lines_first c.args.out.now c.print_declarations.new.out (declaration_lines s) (rule_lines s ++ piece (codes "end") ∷ []) c.in_err-print_declarations.ensures.err)

pub returns-in_err-print_rules-clause-err : goal.returns-in_err-print_rules-clause-err
returns-in_err-print_rules-clause-err c =
    let s = c.args.spec.now in
    OnErr-always c.from_residual-in_err-print_rules.result
    (lines_after c.args.out.now c.print_declarations.new.out c.print_rules.new.out (declaration_lines s) (rule_lines s ++ piece (codes "end") ∷ []) c.in_ok-print_declarations.ensures.ok
    (lines_first c.print_declarations.new.out c.print_rules.new.out (rule_lines s) (piece (codes "end") ∷ []) c.in_err-print_rules.ensures.err))
