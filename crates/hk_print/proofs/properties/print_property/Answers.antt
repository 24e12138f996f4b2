use Rattle.std.proofs.Common.{◌++◌}
use Rattle.hk_text.proofs.Appending.{OnErr-always}
use Rattle.hk_print.specs.Printed.{init_pieces, kind_word}
use Rattle.hk_print.specs.Pieces.{piece}
use Rattle.hk_print.proofs.Lines.{line_name, line_rest}
use Rattle.hk_print.proofs.properties.print_property.Goals as goal

pub returns-in_err-print_word-clause-err : goal.returns-in_err-print_word-clause-err
returns-in_err-print_word-clause-err c =
    let property = c.args.property.now in
    let more = piece (kind_word property.kind) ++ init_pieces property.init in
    OnErr-always c.from_residual-in_err-print_word.result
    (line_name c.args.side.now property.name c.as_slice.result.now more c.args.out.now c.push_all.new.self c.print_word.new.out c.as_slice.ensures c.in_ok-push_all.ensures.ok c.in_err-print_word.ensures.err)

pub returns-in_err-print_value-clause-err : goal.returns-in_err-print_value-clause-err
returns-in_err-print_value-clause-err c =
    let property = c.args.property.now in
    let more = piece (kind_word property.kind) ++ init_pieces property.init in
    OnErr-always c.from_residual-in_err-print_value.result
    (line_rest c.args.side.now property.name c.as_slice.result.now more c.args.out.now c.push_all.new.self c.print_word.new.out c.print_value.new.out c.as_slice.ensures c.in_ok-push_all.ensures.ok c.in_ok-print_word.ensures.ok c.in_err-print_value.ensures.err)
