use Rattle.std.proofs.Common.{refl}
use Rattle.hk_lines.proofs.Capping.{plain_said, minus_said, no_plain, no_minus}
use Rattle.hk_lines.proofs.phrases.signed_of.Goals as goal

pub returns-in_err-value-in-None-clause-none : goal.returns-in_err-value-in-None-clause-none
returns-in_err-value-in-None-clause-none c = λ _. no_plain (c.in-None.ensures.none refl) (c.in_err-value-in-None.ensures.none refl)

pub returns-in_err-value-in-Some-clause-none : goal.returns-in_err-value-in-Some-clause-none
returns-in_err-value-in-Some-clause-none c = λ _. no_minus c.in-Some.ensures.some (c.in_err-value-in-Some.ensures.none refl)

pub returns-in_ok-value-in-None-clause-some : goal.returns-in_ok-value-in-None-clause-some
returns-in_ok-value-in-None-clause-some c = plain_said c.positive.result c.in_ok-value-in-None.ensures.some c.positive.ensures c.in_ok-value-in-None.ensures.small

pub returns-else-value-eq0-clause-some : goal.returns-else-value-eq0-clause-some
returns-else-value-eq0-clause-some c = minus_said c.negative.result c.in-Some.ensures.some c.in_ok-value-in-Some.ensures.some c.if-value-eq0.false c.negative.ensures c.in_ok-value-in-Some.ensures.small
