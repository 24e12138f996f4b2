use Rattle.std.proofs.Common.{refl, sym}
use Rattle.hk_parse.proofs.InitialTexts.{no_number_init, number_read, number_passes}
use Rattle.hk_text.proofs.TokenTexts.{texts_over}
use Rattle.hk_parse.proofs.SignedTexts.{made_is}
use Rattle.hk_parse.proofs.properties.number_init.Goals as goal

pub returns-in_err-number-clause-none : goal.returns-in_err-number-clause-none
returns-in_err-number-clause-none c = λ _. no_number_init (c.in_err-number.ensures.none refl)

pub returns-in-None-clause-some : goal.returns-in-None-clause-some
returns-in-None-clause-some c = number_passes (made_is c.in_ok-number.ensures.some c.in-None.is) (texts_over c.args.line.now c.in_ok-number.rest.now (sym c.if-not-is_empty.ensures))

pub returns-in-Some-clause-some : goal.returns-in-Some-clause-some
returns-in-Some-clause-some c = number_read c.in-Some.n (made_is c.in_ok-number.ensures.some c.in-Some.is) (texts_over c.args.line.now c.in_ok-number.rest.now (sym c.if-not-is_empty.ensures))
