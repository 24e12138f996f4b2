use Rattle.std.proofs.Common.{refl, sym}
use Rattle.hk_lines.proofs.Capping.{bounds_said, no_bounds_points, no_bounds_most, no_bounds_over}
use Rattle.hk_text.proofs.TokenTexts.{texts_over, texts_go_on}
use Rattle.hk_lines.proofs.phrases.bounds_of.Goals as goal

pub returns-in_err-after-clause-none : goal.returns-in_err-after-clause-none
returns-in_err-after-clause-none c = λ _. no_bounds_points c.in_ok-least.ensures.some (c.in_err-after.ensures.none refl)

pub returns-in_err-most-clause-none : goal.returns-in_err-most-clause-none
returns-in_err-most-clause-none c = λ _. no_bounds_most c.in_ok-least.ensures.some c.in_ok-after.ensures.some (c.in_err-most.ensures.none refl)

pub returns-then-not-is_empty-clause-none : goal.returns-then-not-is_empty-clause-none
returns-then-not-is_empty-clause-none c = λ _. no_bounds_over c.in_ok-least.ensures.some c.in_ok-after.ensures.some c.in_ok-most.ensures.some (texts_go_on c.args.line.now c.in_ok-most.rest.now (sym c.if-not-is_empty.ensures))

pub returns-clause-some : goal.returns-clause-some
returns-clause-some c =
    bounds_said c.in_ok-least.ensures.some c.in_ok-after.ensures.some c.in_ok-most.ensures.some (texts_over c.args.line.now c.in_ok-most.rest.now (sym c.if-not-is_empty.ensures))
