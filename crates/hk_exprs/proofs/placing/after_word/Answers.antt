use Rattle.std.proofs.Common.{codes, ◌∙◌}
use Rattle.hk_exprs.proofs.FramesKept.{instead}
use Rattle.hk_exprs.proofs.KeepingWords.{word_there, word_none, place_no_not, place_not}
use Rattle.hk_exprs.proofs.placing.after_word.Goals as goal

pub returns-in_default : goal.returns-in_default
returns-in_default c = λ names x y h k. instead c.none_of.ensures (place_no_not x y (word_none x (codes "not") (c.in_default.ensures names x h)))

pub returns-then-not-is_text : goal.returns-then-not-is_text
returns-then-not-is_text c = λ names x y h k. instead c.none_of-then-not-is_text.ensures (place_no_not x y (word_there x (codes "not") (c.in-Some.ensures names x h) c.is_text.ensures ∙ c.if-not-is_text.true))

pub returns-in_default-as_cond : goal.returns-in_default-as_cond
returns-in_default-as_cond c = λ names x y h k. place_not x y (word_there x (codes "not") (c.in-Some.ensures names x h) c.is_text.ensures ∙ c.if-not-is_text.false) (c.in_default-as_cond.ensures names y k)

pub returns : goal.returns
returns c = λ names x y h k. place_not x y (word_there x (codes "not") (c.in-Some.ensures names x h) c.is_text.ensures ∙ c.if-not-is_text.false) (c.in-Some-as_cond.ensures names y k)
