use Rattle.std.proofs.Common.{ℕ}
use Rattle.hk_text.specs.Numbers.{IsNumber}
use Rattle.hk_exprs.proofs.Keeping.{from_word, from_signed, from_num, from_set, from_cond}
use Rattle.hk_exprs.specs.inside.Standing.{neither, both_there}
use Rattle.hk_exprs.proofs.resolving.as_num.Goals as goal

pub signed-requires : goal.signed-requires
signed-requires c = from_signed (λ x. (n : ℕ) × IsNumber c.in-Signed.digits.now n) c.in-Signed.is (λ n number. (n, number)) c.requires.kept.0 c.requires.kept.1

pub returns-in-Word : goal.returns-in-Word
returns-in-Word c = from_word _ c.in-Word.is (both_there c.num_word.ensures)

pub returns-in-Signed : goal.returns-in-Signed
returns-in-Signed c = from_signed _ c.in-Signed.is (λ n number. c.signed.ensures c.args.names.now)

pub returns-in-Num : goal.returns-in-Num
returns-in-Num c = from_num _ c.in-Num.is (λ text made. both_there made)

pub returns-in-Set : goal.returns-in-Set
returns-in-Set c = from_set _ c.in-Set.is (λ text made. neither)

pub returns-in-Cond : goal.returns-in-Cond
returns-in-Cond c = from_cond _ c.in-Cond.is (λ text made. neither)
