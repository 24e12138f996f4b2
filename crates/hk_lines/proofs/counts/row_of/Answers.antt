use Rattle.std.proofs.Common.{refl}
use Rattle.hk_lines.proofs.CountReading.{no_row_counts, row_said}
use Rattle.hk_lines.proofs.counts.row_of.Goals as goal

pub returns-in_err-counts-clause-none : goal.returns-in_err-counts-clause-none
returns-in_err-counts-clause-none c = λ _. no_row_counts c.in_ok-digits.ensures.some c.in_ok-after.ensures.some (c.in_err-counts.ensures.none refl)

pub returns-clause-some : goal.returns-clause-some
returns-clause-some c = row_said c.in_ok-digits.ensures.some c.in_ok-value.ensures.some c.in_ok-after.ensures.some c.in_ok-counts.ensures.some
