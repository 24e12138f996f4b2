use Rattle.hk_text.proofs.Appending.{AppendsFront-first, OnErr-always}
use Rattle.hk_print.specs.Pieces.{piece, spaced}
use Rattle.hk_print.proofs.numbers.print_named.Goals as goal

pub returns-in_err-print_word-clause-err : goal.returns-in_err-print_word-clause-err
returns-in_err-print_word-clause-err c =
    OnErr-always c.from_residual.result
    (AppendsFront-first c.args.out.now c.print_word.new.out (spaced (piece c.args.name.now)) c.args.after.now c.in_err-print_word.ensures.err)
