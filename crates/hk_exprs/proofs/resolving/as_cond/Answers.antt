use Rattle.hk_exprs.proofs.Keeping.{from_word, from_signed, from_num, from_set, from_cond}
use Rattle.hk_exprs.specs.inside.Standing.{neither, both_there}
use Rattle.hk_exprs.proofs.resolving.as_cond.Goals as goal

pub returns-in-Word : goal.returns-in-Word
returns-in-Word c = λ names. from_word _ c.in-Word.is (c.cond_word.ensures names)

pub returns-in-Signed : goal.returns-in-Signed
returns-in-Signed c = λ names. from_signed _ c.in-Signed.is (λ n number. neither)

pub returns-in-Num : goal.returns-in-Num
returns-in-Num c = λ names. from_num _ c.in-Num.is (λ text made. neither)

pub returns-in-Set : goal.returns-in-Set
returns-in-Set c = λ names. from_set _ c.in-Set.is (λ text made. neither)

pub returns-in-Cond : goal.returns-in-Cond
returns-in-Cond c = λ names. from_cond _ c.in-Cond.is (λ text made. both_there made)
