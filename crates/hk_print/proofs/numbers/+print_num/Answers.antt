use Rattle.std.proofs.Common.{◌++◌, codes}
use Rattle.hk_text.proofs.Appending.{OnErr-always, OnErr-then}
use Rattle.hk_print.specs.Expressions.{naming_of, num_pieces}
use Rattle.hk_print.specs.Pieces.{spaced}
use Rattle.hk_print.proofs.Joined.{OnOk-then, one_appended, one_begun, one_unended, two_appended, two_halved, two_unended}
use Rattle.hk_print.proofs.numbers.+print_num.Goals as goal

pub print_nums-returns-in_err-print_num_after-clause-err : goal.print_nums-returns-in_err-print_num_after-clause-err
print_nums-returns-in_err-print_num_after-clause-err t c =
    let rest = c.args.between.now ++ (spaced (num_pieces (naming_of c.args.spec.now) c.args.b.now) ++ codes " )") in
    OnErr-always c.from_residual.result (one_begun c.args.out.now c.args.before.now (spaced (num_pieces (naming_of c.args.spec.now) c.args.a.now)) rest c.print_num_after.new.out c.in_err-print_num_after.ensures.err)

pub print_nums-returns-in_err-print_num_after-2-clause-err : goal.print_nums-returns-in_err-print_num_after-2-clause-err
print_nums-returns-in_err-print_num_after-2-clause-err t c =
    OnErr-always c.from_residual-in_err-print_num_after-2.result
    (two_halved c.args.out.now c.args.before.now (spaced (num_pieces (naming_of c.args.spec.now) c.args.a.now)) c.args.between.now (spaced (num_pieces (naming_of c.args.spec.now) c.args.b.now)) (codes " )") c.print_num_after.new.out c.print_num_after-2.new.out c.in_ok-print_num_after.ensures.ok c.in_err-print_num_after-2.ensures.err)

pub print_nums-returns-clause-ok : goal.print_nums-returns-clause-ok
print_nums-returns-clause-ok t c =
    OnOk-then c.push_all.result
    (two_appended c.args.out.now c.args.before.now (spaced (num_pieces (naming_of c.args.spec.now) c.args.a.now)) c.args.between.now (spaced (num_pieces (naming_of c.args.spec.now) c.args.b.now)) (codes " )") c.print_num_after.new.out c.print_num_after-2.new.out c.push_all.new.self c.in_ok-print_num_after.ensures.ok c.in_ok-print_num_after-2.ensures.ok)
    c.push_all.ensures.ok

pub print_nums-returns-clause-err : goal.print_nums-returns-clause-err
print_nums-returns-clause-err t c =
    OnErr-then c.push_all.result
    (two_unended c.args.out.now c.args.before.now (spaced (num_pieces (naming_of c.args.spec.now) c.args.a.now)) c.args.between.now (spaced (num_pieces (naming_of c.args.spec.now) c.args.b.now)) (codes " )") c.print_num_after.new.out c.print_num_after-2.new.out c.push_all.new.self c.in_ok-print_num_after.ensures.ok c.in_ok-print_num_after-2.ensures.ok)
    c.push_all.ensures.err

pub print_num_within-returns-in_err-print_num_after-clause-err : goal.print_num_within-returns-in_err-print_num_after-clause-err
print_num_within-returns-in_err-print_num_after-clause-err t c = OnErr-always c.from_residual.result (one_begun c.args.out.now c.args.before.now (spaced (num_pieces (naming_of c.args.spec.now) c.args.e.now)) (codes " )") c.print_num_after.new.out c.in_err-print_num_after.ensures.err)

pub print_num_within-returns-clause-ok : goal.print_num_within-returns-clause-ok
print_num_within-returns-clause-ok t c = OnOk-then c.push_all.result (one_appended c.args.out.now c.args.before.now (spaced (num_pieces (naming_of c.args.spec.now) c.args.e.now)) (codes " )") c.print_num_after.new.out c.push_all.new.self c.in_ok-print_num_after.ensures.ok) c.push_all.ensures.ok

pub print_num_within-returns-clause-err : goal.print_num_within-returns-clause-err
print_num_within-returns-clause-err t c = OnErr-then c.push_all.result (one_unended c.args.out.now c.args.before.now (spaced (num_pieces (naming_of c.args.spec.now) c.args.e.now)) (codes " )") c.print_num_after.new.out c.push_all.new.self c.in_ok-print_num_after.ensures.ok) c.push_all.ensures.err
