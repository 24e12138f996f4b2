use Rattle.std.proofs.Common.{sym, ◌∙◌}
use Rattle.hk_exprs.proofs.MakingLeaves.{word_always, word_never, word_no_truth}
use Rattle.hk_exprs.proofs.resolving.cond_word.Goals as goal

pub returns-then-is_text : goal.returns-then-is_text
returns-then-is_text c = λ names. word_always names c.args.word.now (sym c.is_text.ensures ∙ c.if-is_text.true) c.leaf.ensures

pub returns-then-is_text-2 : goal.returns-then-is_text-2
returns-then-is_text-2 c = λ names. word_never names c.args.word.now (sym c.is_text.ensures ∙ c.if-is_text.false) (sym c.is_text-2.ensures ∙ c.if-is_text-2.true) c.leaf-then-is_text-2.ensures

pub returns : goal.returns
returns c = λ names. word_no_truth names c.args.word.now (sym c.is_text.ensures ∙ c.if-is_text.false) (sym c.is_text-2.ensures ∙ c.if-is_text-2.false)
