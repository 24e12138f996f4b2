use Rattle.std.proofs.Common.{codes}
use Rattle.hk_text.proofs.Appending.{OnErr-always, OnErr-then}
use Rattle.hk_print.specs.Expressions.{naming_of, set_pieces}
use Rattle.hk_print.specs.Pieces.{spaced}
use Rattle.hk_print.proofs.Joined.{OnOk-then, one_appended, one_begun, one_unended}
use Rattle.hk_print.proofs.sets.print_set_within.Goals as goal

pub returns-in_err-print_set_after-clause-err : goal.returns-in_err-print_set_after-clause-err
returns-in_err-print_set_after-clause-err c = OnErr-always c.from_residual.result (one_begun c.args.out.now c.args.before.now (spaced (set_pieces (naming_of c.args.spec.now) c.args.e.now)) (codes " )") c.print_set_after.new.out c.in_err-print_set_after.ensures.err)

pub returns-clause-ok : goal.returns-clause-ok
returns-clause-ok c = OnOk-then c.push_all.result (one_appended c.args.out.now c.args.before.now (spaced (set_pieces (naming_of c.args.spec.now) c.args.e.now)) (codes " )") c.print_set_after.new.out c.push_all.new.self c.in_ok-print_set_after.ensures.ok) c.push_all.ensures.ok

pub returns-clause-err : goal.returns-clause-err
returns-clause-err c = OnErr-then c.push_all.result (one_unended c.args.out.now c.args.before.now (spaced (set_pieces (naming_of c.args.spec.now) c.args.e.now)) (codes " )") c.print_set_after.new.out c.push_all.new.self c.in_ok-print_set_after.ensures.ok) c.push_all.ensures.err
