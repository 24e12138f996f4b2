use Rattle.std.proofs.Common.{refl}
use Rattle.hk_lines.proofs.Capping.{range_said, no_range_first, no_range_last}
use Rattle.hk_lines.proofs.phrases.range_of.Goals as goal

pub returns-in_err-first-clause-none : goal.returns-in_err-first-clause-none
returns-in_err-first-clause-none c = λ _. no_range_first (c.in_err-first.ensures.none refl)

pub returns-in_err-last-clause-none : goal.returns-in_err-last-clause-none
returns-in_err-last-clause-none c = λ _. no_range_last c.in_ok-first.ensures.some c.in_ok-after.ensures.some (c.in_err-last.ensures.none refl)

pub returns-clause-some : goal.returns-clause-some
returns-clause-some c = range_said c.in_ok-first.ensures.some c.in_ok-after.ensures.some c.in_ok-last.ensures.some
