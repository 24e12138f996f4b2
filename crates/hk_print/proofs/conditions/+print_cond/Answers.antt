use Rattle.std.proofs.Common.{◌++◌, codes}
use Rattle.hk_text.proofs.Appending.{OnErr-always, OnErr-then}
use Rattle.hk_print.specs.Expressions.{naming_of, cond_pieces}
use Rattle.hk_print.specs.Pieces.{spaced}
use Rattle.hk_print.proofs.Joined.{OnOk-then, one_appended, one_begun, one_followed, one_unended}
use Rattle.hk_print.proofs.conditions.+print_cond.Goals as goal

pub print_cond_within-returns-in_err-print_cond_after-clause-err : goal.print_cond_within-returns-in_err-print_cond_after-clause-err
print_cond_within-returns-in_err-print_cond_after-clause-err t c = OnErr-always c.from_residual.result (one_begun c.args.out.now c.args.before.now (spaced (cond_pieces (naming_of c.args.spec.now) c.args.p.now)) (codes " )") c.print_cond_after.new.out c.in_err-print_cond_after.ensures.err)

pub print_cond_within-returns-clause-ok : goal.print_cond_within-returns-clause-ok
print_cond_within-returns-clause-ok t c = OnOk-then c.push_all.result (one_appended c.args.out.now c.args.before.now (spaced (cond_pieces (naming_of c.args.spec.now) c.args.p.now)) (codes " )") c.print_cond_after.new.out c.push_all.new.self c.in_ok-print_cond_after.ensures.ok) c.push_all.ensures.ok

pub print_cond_within-returns-clause-err : goal.print_cond_within-returns-clause-err
print_cond_within-returns-clause-err t c = OnErr-then c.push_all.result (one_unended c.args.out.now c.args.before.now (spaced (cond_pieces (naming_of c.args.spec.now) c.args.p.now)) (codes " )") c.print_cond_after.new.out c.push_all.new.self c.in_ok-print_cond_after.ensures.ok) c.push_all.ensures.err

pub print_conds-returns-in_err-print_cond_after-clause-err : goal.print_conds-returns-in_err-print_cond_after-clause-err
print_conds-returns-in_err-print_cond_after-clause-err t c = OnErr-always c.from_residual.result (one_begun c.args.out.now (codes " (") (spaced (cond_pieces (naming_of c.args.spec.now) c.args.p.now)) (c.args.between.now ++ (spaced (cond_pieces (naming_of c.args.spec.now) c.args.q.now) ++ codes " )")) c.print_cond_after.new.out c.in_err-print_cond_after.ensures.err)

pub print_conds-returns-clause-ok : goal.print_conds-returns-clause-ok
print_conds-returns-clause-ok t c = OnOk-then c.print_cond_within.result (one_appended c.args.out.now (codes " (") (spaced (cond_pieces (naming_of c.args.spec.now) c.args.p.now)) (c.args.between.now ++ (spaced (cond_pieces (naming_of c.args.spec.now) c.args.q.now) ++ codes " )")) c.print_cond_after.new.out c.print_cond_within.new.out c.in_ok-print_cond_after.ensures.ok) c.print_cond_within.ensures.ok

pub print_conds-returns-clause-err : goal.print_conds-returns-clause-err
print_conds-returns-clause-err t c = OnErr-then c.print_cond_within.result (one_followed c.args.out.now (codes " (") (spaced (cond_pieces (naming_of c.args.spec.now) c.args.p.now)) (c.args.between.now ++ (spaced (cond_pieces (naming_of c.args.spec.now) c.args.q.now) ++ codes " )")) c.print_cond_after.new.out c.print_cond_within.new.out c.in_ok-print_cond_after.ensures.ok) c.print_cond_within.ensures.err
