use Rattle.std.proofs.Common.{subst}
use Rattle.hk_terms.specs.Outcomes.{IsNumOf}
use Rattle.hk_exprs.proofs.expressions.both_of.Goals as goal

pub returns-in-Err : goal.returns-in-Err
returns-in-Err c = λ names a b first second. c.first_flaw.ensures names a b (subst (IsNumOf names a) c.in-Err.is first) second
