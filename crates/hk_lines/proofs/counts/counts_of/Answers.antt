use Rattle.std.proofs.Common.{refl, sym}
use Rattle.hk_text.proofs.TokenTexts.{texts_over, texts_go_on}
use Rattle.hk_lines.proofs.CountReading.{no_range_whole, range_goes_on, whole_range_said}
use Rattle.hk_lines.proofs.counts.counts_of.Goals as goal

pub returns-in_err-counts-clause-none : goal.returns-in_err-counts-clause-none
returns-in_err-counts-clause-none c = λ _. no_range_whole (c.in_err-counts.ensures.none refl)

pub returns-then-not-is_empty-clause-none : goal.returns-then-not-is_empty-clause-none
returns-then-not-is_empty-clause-none c = λ _. range_goes_on c.in_ok-counts.ensures.some (texts_go_on c.args.line.now c.in_ok-counts.rest.now (sym c.if-not-is_empty.ensures))

pub returns-clause-some : goal.returns-clause-some
returns-clause-some c = whole_range_said c.in_ok-counts.ensures.some (texts_over c.args.line.now c.in_ok-counts.rest.now (sym c.if-not-is_empty.ensures))
