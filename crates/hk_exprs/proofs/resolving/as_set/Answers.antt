use Rattle.hk_exprs.proofs.Keeping.{from_word, from_signed, from_num, from_set, from_cond}
use Rattle.hk_exprs.specs.inside.Standing.{neither, both_there}
use Rattle.hk_exprs.proofs.resolving.as_set.Goals as goal

pub returns-in-Word : goal.returns-in-Word
returns-in-Word c = from_word _ c.in-Word.is (both_there c.set_word.ensures)

pub returns-in-Signed : goal.returns-in-Signed
returns-in-Signed c = from_signed _ c.in-Signed.is (λ n number. neither)

pub returns-in-Num : goal.returns-in-Num
returns-in-Num c = from_num _ c.in-Num.is (λ text made. neither)

pub returns-in-Set : goal.returns-in-Set
returns-in-Set c = from_set _ c.in-Set.is (λ text made. both_there made)

pub returns-in-Cond : goal.returns-in-Cond
returns-in-Cond c = from_cond _ c.in-Cond.is (λ text made. neither)
