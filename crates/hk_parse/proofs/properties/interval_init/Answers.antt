use Rattle.std.proofs.Common.{refl, sym}
use Rattle.hk_parse.proofs.InitialTexts.{no_high, no_longer_interval, interval_read, interval_passes}
use Rattle.hk_text.proofs.TokenTexts.{texts_over, texts_go_on}
use Rattle.hk_parse.proofs.SignedTexts.{made_is}
use Rattle.hk_parse.proofs.properties.interval_init.Goals as goal

pub returns-in_err-high-clause-none : goal.returns-in_err-high-clause-none
returns-in_err-high-clause-none c = λ _. no_high c.in_ok-low.ensures.some c.in_ok-after.ensures.some (c.in_err-high.ensures.none refl)

pub returns-then-not-is_empty-clause-none : goal.returns-then-not-is_empty-clause-none
returns-then-not-is_empty-clause-none c = λ _. no_longer_interval c.in_ok-low.ensures.some c.in_ok-after.ensures.some c.in_ok-high.ensures.some (texts_go_on c.args.line.now c.in_ok-high.rest.now (sym c.if-not-is_empty.ensures))

pub returns-in-Some-Some-clause-some : goal.returns-in-Some-Some-clause-some
returns-in-Some-Some-clause-some c =
    interval_read c.in-Some-Some.low c.in-Some-Some.high (made_is c.in_ok-low.ensures.some c.in-Some-Some.is-0) c.in_ok-after.ensures.some (made_is c.in_ok-high.ensures.some c.in-Some-Some.is-1)
    (texts_over c.args.line.now c.in_ok-high.rest.now (sym c.if-not-is_empty.ensures))

pub returns-in_default-clause-some : goal.returns-in_default-clause-some
returns-in_default-clause-some c =
    interval_passes c.in_ok-low.ensures.some c.in_ok-after.ensures.some c.in_ok-high.ensures.some (texts_over c.args.line.now c.in_ok-high.rest.now (sym c.if-not-is_empty.ensures))
    (λ m n low high. let none = c.in_default.is-1 in cc)

pub returns-in_default-2-clause-some : goal.returns-in_default-2-clause-some
returns-in_default-2-clause-some c =
    interval_passes c.in_ok-low.ensures.some c.in_ok-after.ensures.some c.in_ok-high.ensures.some (texts_over c.args.line.now c.in_ok-high.rest.now (sym c.if-not-is_empty.ensures))
    (λ m n low high. let none = c.in_default.is-0 in cc)
