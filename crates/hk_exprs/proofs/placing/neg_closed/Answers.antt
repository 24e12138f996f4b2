use Rattle.std.proofs.Common.{sym, subst}
use Rattle.hk_exprs.proofs.FramesKept.{mapped, mapped_none}
use Rattle.hk_exprs.proofs.MakingNums.{num_negative}
use Rattle.hk_terms.specs.NumTexts as nums
use Rattle.hk_exprs.specs.inside.Standing.{IsMadeNum, kept_num, kept_value}
use Rattle.hk_exprs.proofs.placing.neg_closed.Goals as goal

pub returns-in_default : goal.returns-in_default
returns-in_default c = λ x h. mapped_none _ (c.in_default.ensures x h)

pub returns : goal.returns
returns c = λ x h. mapped _ (c.in-Some.ensures x h) (λ p m. kept_value (kept_num (subst (IsMadeNum c.args.names.now (nums.Negative p)) (sym c.in_ok-negate.ensures) (num_negative c.args.names.now p c.in-Some.num m))))
