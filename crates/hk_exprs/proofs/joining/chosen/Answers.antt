use Rattle.std.proofs.Common.{codes, sym, subst, ◌∙◌, true, false}
use Rattle.hk_exprs.proofs.KeepingWords.{word_there, word_none, choice_none, choice_least, choice_most}
use Rattle.hk_exprs.proofs.MakingNums.{nums_chosen}
use Rattle.hk_terms.specs.NumTexts as nums
use Rattle.hk_exprs.specs.inside.Standing.{IsMadeNum, kept_num}
use Rattle.hk_exprs.proofs.joining.chosen.Goals as goal

pub returns-in_default : goal.returns-in_default
returns-in_default c = λ names x p q h m n. choice_none x p q (word_none x (codes "min") (c.in_default.ensures names x h)) (word_none x (codes "max") (c.in_default.ensures names x h))

pub returns-then-is_text : goal.returns-then-is_text
returns-then-is_text c = λ names x p q h m n. choice_least x p q (word_there x (codes "min") (c.in-Some.ensures names x h) (sym c.if-is_text.true ∙ c.is_text.ensures)) (kept_num (subst (IsMadeNum names (nums.Chosen nums.Least p q)) (sym c.in_ok-choose_num.ensures) (nums_chosen names false p q c.args.a c.args.b m n)))

pub returns-then-is_text-2 : goal.returns-then-is_text-2
returns-then-is_text-2 c = λ names x p q h m n. choice_most x p q (word_there x (codes "min") (c.in-Some.ensures names x h) (sym c.if-is_text.false ∙ c.is_text.ensures)) (word_there x (codes "max") (c.in-Some.ensures names x h) (sym c.if-is_text-2.true ∙ c.is_text-2.ensures)) (kept_num (subst (IsMadeNum names (nums.Chosen nums.Most p q)) (sym c.in_ok-choose_num-2.ensures) (nums_chosen names true p q c.args.a c.args.b m n)))

pub returns : goal.returns
returns c = λ names x p q h m n. choice_none x p q (word_there x (codes "min") (c.in-Some.ensures names x h) (sym c.if-is_text.false ∙ c.is_text.ensures)) (word_there x (codes "max") (c.in-Some.ensures names x h) (sym c.if-is_text-2.false ∙ c.is_text-2.ensures))
