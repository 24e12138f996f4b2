use Rattle.std.proofs.Common.{◌∙◌, sym}
use Rattle.hk_parse.proofs.SignedTexts.{minus_then}
use Rattle.hk_text.proofs.TokenTexts.{nonzero_text}
use Rattle.hk_parse.proofs.properties.signed_of.Goals as goal

pub signed_value-requires-2 : goal.signed_value-requires-2
signed_value-requires-2 c = nonzero_text c.in_ok-digits-2.ensures.number.1 (sym c.is_zero.ensures ∙ c.if-is_zero.false)

pub returns-clause-some : goal.returns-clause-some
returns-clause-some c = minus_then c.in-Some.ensures.some c.in_ok-digits-2.ensures.some (nonzero_text c.in_ok-digits-2.ensures.number.1 (sym c.is_zero.ensures ∙ c.if-is_zero.false)) c.signed_value-2.ensures
