use Rattle.std.proofs.Common.{refl}
use Rattle.hk_lines.proofs.Capping.{term_said, no_term_star, no_term_word}
use Rattle.hk_lines.proofs.Words.{word_said, no_word}
use Rattle.hk_lines.proofs.phrases.term_of.Goals as goal

pub returns-in_err-after-clause-none : goal.returns-in_err-after-clause-none
returns-in_err-after-clause-none c = λ _. no_term_star c.in_ok-coef.ensures.some (c.in_err-after.ensures.none refl)

pub returns-in_err-name-clause-none : goal.returns-in_err-name-clause-none
returns-in_err-name-clause-none c = λ _. no_term_word c.in_ok-coef.ensures.some c.in_ok-after.ensures.some (no_word (c.in_err-name.ensures.none refl))

pub returns-clause-some : goal.returns-clause-some
returns-clause-some c = term_said c.in_ok-coef.ensures.some c.in_ok-after.ensures.some (word_said c.in_ok-name.ensures.some c.in_ok-name.ensures.word)
