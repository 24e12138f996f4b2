use Rattle.std.proofs.Common.{codes, sym, subst, ◌∙◌}
use Rattle.hk_exprs.proofs.KeepingWords.{word_there, word_none, card_no_word, card_no_set, card_made}
use Rattle.hk_exprs.proofs.MakingNums.{num_card}
use Rattle.hk_terms.specs.NumTexts as nums
use Rattle.hk_exprs.specs.inside.Standing.{IsMadeNum, kept_num}
use Rattle.hk_exprs.proofs.joining.counted.Goals as goal

pub returns-in_default : goal.returns-in_default
returns-in_default c = λ x y h k. card_no_set x y (c.in_default.ensures y k)

pub returns-in_default-word_of : goal.returns-in_default-word_of
returns-in_default-word_of c = λ x y h k. card_no_word x y (word_none x (codes "card") (c.in_default-word_of.ensures c.args.names.now x h))

pub returns-then-not-is_text : goal.returns-then-not-is_text
returns-then-not-is_text c = λ x y h k. card_no_word x y (word_there x (codes "card") (c.in-Some-word_of.ensures c.args.names.now x h) (sym c.if-not-is_text.true ∙ c.is_text.ensures))

pub returns : goal.returns
returns c = λ x y h k. card_made x y (word_there x (codes "card") (c.in-Some-word_of.ensures c.args.names.now x h) (sym c.if-not-is_text.false ∙ c.is_text.ensures)) (c.in-Some.ensures y k) (λ p m. kept_num (subst (IsMadeNum c.args.names.now (nums.Card p)) (sym c.in_ok-count.ensures) (num_card c.args.names.now p c.in-Some.set m)))
