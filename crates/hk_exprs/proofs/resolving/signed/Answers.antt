use Rattle.std.proofs.Common.{sym, ◌∙◌}
use Rattle.hk_exprs.proofs.MakingLeaves.{signed_none, signed_some, not_zero}
use Rattle.hk_exprs.proofs.resolving.signed.Goals as goal

pub num_literal-requires : goal.num_literal-requires
num_literal-requires c = not_zero c.args.digits.now c.requires.1 (sym c.is_text.ensures ∙ c.if-is_text.false)

pub returns-then-is_text : goal.returns-then-is_text
returns-then-is_text c = λ names. signed_none names c.args.digits.now (sym c.is_text.ensures ∙ c.if-is_text.true)

pub returns : goal.returns
returns c = λ names. signed_some names c.args.digits.now (sym c.is_text.ensures ∙ c.if-is_text.false) (c.num_literal.ensures names)
