use Rattle.hk_terms.proofs.literals.is_below.Goals as goal
use Rattle.hk_terms.proofs.DigitOrder.{shorter_less, shorter_only, same_less}
use Rattle.std.proofs.Common.{◌↔◌, ◌<◌, IsTrue, subst, sym, arith}
use Rattle.std.proofs.lemmas.Bool.Decides.{nat_tests}

pub returns-then-a-b : goal.returns-then-a-b
returns-then-a-b c m n first second =
    (λ test. shorter_less first second (grind (arith, nat_tests)), λ less. let shorter = shorter_only first second c.if-a-b.true less in grind (arith, nat_tests))

pub returns : goal.returns
returns c m n first second = subst (λ r. IsTrue r ↔ m < n) (sym c.lt.ensures) (same_less first second c.if-a-b.false)
