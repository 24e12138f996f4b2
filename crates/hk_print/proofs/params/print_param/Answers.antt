use Rattle.std.proofs.Common.{List, ℕ, subst}
use Rattle.hk_base.specs.Lists.{AppendsFront}
use Rattle.hk_text.proofs.Appending.{OnErr-always}
use Rattle.hk_print.specs.Printed.{param_word}
use Rattle.hk_print.specs.Pieces.{piece, spaced}
use Rattle.hk_print.proofs.Spacing.{spaced_first}
use Rattle.hk_print.proofs.params.print_param.Goals as goal

pub returns-in_err-print_word-clause-err : goal.returns-in_err-print_word-clause-err
returns-in_err-print_word-clause-err c =
    OnErr-always c.from_residual.result
    (spaced_first c.args.out.now c.print_word.new.out (piece (param_word c.args.param.now.kind)) (piece c.args.param.now.name)
    (subst (λ (word : List ℕ). AppendsFront c.args.out.now c.print_word.new.out (spaced (piece word))) c.param_word.ensures c.in_err-print_word.ensures.err))
