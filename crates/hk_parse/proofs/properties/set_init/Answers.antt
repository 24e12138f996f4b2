use Rattle.std.proofs.Common.{refl, sym}
use Rattle.hk_parse.proofs.InitialSets.{no_brace, no_values, no_longer_values, set_read, set_passes, values_made}
use Rattle.hk_text.proofs.TokenTexts.{texts_over, texts_go_on}
use Rattle.hk_parse.proofs.properties.set_init.Goals as goal

pub returns-in_err-after-clause-none : goal.returns-in_err-after-clause-none
returns-in_err-after-clause-none c = λ _. no_brace (c.in_err-after.ensures.none refl)

pub returns-in_err-made-clause-none : goal.returns-in_err-made-clause-none
returns-in_err-made-clause-none c = λ _. no_values c.in_ok-after.ensures.some (c.in_err-made.ensures.none refl)

pub returns-then-not-is_empty-clause-none : goal.returns-then-not-is_empty-clause-none
returns-then-not-is_empty-clause-none c = λ _. no_longer_values c.in_ok-after.ensures.some c.in_ok-made.ensures.some (texts_go_on c.args.line.now c.in_ok-made.rest.now (sym c.if-not-is_empty.ensures))

pub returns-in-Ok-clause-some : goal.returns-in-Ok-clause-some
returns-in-Ok-clause-some c = set_read c.in_ok-after.ensures.some (values_made c.in_ok-made.ensures.some c.in-Ok.is) (texts_over c.args.line.now c.in_ok-made.rest.now (sym c.if-not-is_empty.ensures))

pub returns-in-Err-clause-some : goal.returns-in-Err-clause-some
returns-in-Err-clause-some c = set_passes c.in-Err.field-0 c.in_ok-after.ensures.some (values_made c.in_ok-made.ensures.some c.in-Err.is) (texts_over c.args.line.now c.in_ok-made.rest.now (sym c.if-not-is_empty.ensures))
