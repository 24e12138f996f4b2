use Rattle.std.proofs.Common.{ℕ, false, sym, subst}
use Rattle.hk_text.specs.Numbers.{IsNumber}
use Rattle.hk_exprs.proofs.FramesKept.{one_alone}
use Rattle.hk_exprs.proofs.Keeping.{from_signed}
use Rattle.hk_exprs.proofs.MakingNums.{num_negative}
use Rattle.hk_terms.specs.NumTexts as nums
use Rattle.hk_exprs.specs.inside.Standing.{IsMadeNum, both_there, kept_num, kept_value}
use Rattle.hk_exprs.proofs.placing.one_closed.Goals as goal

pub num_literal-requires : goal.num_literal-requires
num_literal-requires c = from_signed (λ x. (n : ℕ) × IsNumber c.in-Signed.digits.now n) c.in-Signed.is (λ n number. (n, number)) c.requires.kept.1 c.requires.kept.2

pub returns-in_ok-made-in-Signed : goal.returns-in_ok-made-in-Signed
returns-in_ok-made-in-Signed c = λ names. from_signed _ c.in-Signed.is (λ n number. both_there (kept_value (kept_num (subst (IsMadeNum names (nums.Negative (nums.Number false c.in-Signed.digits.now))) (sym c.in_ok-made-in-Signed.ensures) (num_negative names (nums.Number false c.in-Signed.digits.now) c.num_literal.result (c.num_literal.ensures names))))))

pub returns-in_default : goal.returns-in_default
returns-in_default c = λ names. one_alone c.in_default.not-Signed
