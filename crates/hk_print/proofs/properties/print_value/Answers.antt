use Rattle.std.proofs.Common.{List, ℕ, subst}
use Rattle.hk_base.specs.Lists.{AppendsFront}
use Rattle.hk_text.proofs.Appending.{OnErr-always}
use Rattle.hk_print.specs.Printed.{init_pieces, kind_word}
use Rattle.hk_print.specs.Pieces.{piece, spaced}
use Rattle.hk_print.proofs.Spacing.{spaced_first}
use Rattle.hk_print.proofs.properties.print_value.Goals as goal

pub returns-in_err-print_word-clause-err : goal.returns-in_err-print_word-clause-err
returns-in_err-print_word-clause-err c =
    OnErr-always c.from_residual.result
    (spaced_first c.args.out.now c.print_word.new.out (piece (kind_word c.args.property.now.kind)) (init_pieces c.args.property.now.init)
    (subst (λ (word : List ℕ). AppendsFront c.args.out.now c.print_word.new.out (spaced (piece word))) c.kind_word.ensures c.in_err-print_word.ensures.err))
