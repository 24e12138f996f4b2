use Rattle.std.proofs.Common.{sym, subst}
use Rattle.hk_exprs.proofs.KeepingBoth.{no_first, no_second, both_made}
use Rattle.hk_exprs.proofs.MakingNums.{nums_joined}
use Rattle.hk_exprs.specs.inside.Making.{num_operation}
use Rattle.hk_exprs.specs.inside.Machines as machine
use Rattle.hk_terms.specs.NumTexts as nums
use Rattle.hk_exprs.specs.inside.Standing.{IsMadeNum, kept_num}
use Rattle.hk_exprs.proofs.joining.nums_between.Goals as goal

pub as_num-requires : goal.as_num-requires
as_num-requires c = record { few = c.requires.few; kept = c.requires.kept.0 }

pub as_num-requires-2 : goal.as_num-requires-2
as_num-requires-2 c = record { few = c.requires.few; kept = c.requires.kept.1 }

pub returns-in_default : goal.returns-in_default
returns-in_default c = λ x y h k. no_first _ (machine.as_num x) (machine.as_num y) (c.in_default.ensures x h)

pub returns-in_default-as_num : goal.returns-in_default-as_num
returns-in_default-as_num c = λ x y h k. no_second _ (machine.as_num x) (machine.as_num y) (c.in_default-as_num.ensures y k)

pub returns : goal.returns
returns c = λ x y h k. both_made _ (machine.as_num x) (machine.as_num y) (c.in-Some.ensures x h) (c.in-Some-as_num.ensures y k) (λ p q m n. kept_num (subst (IsMadeNum c.args.names.now (nums.Joined (num_operation c.args.mark) p q)) (sym c.in_ok-join_nums.ensures) (nums_joined c.args.names.now c.args.mark p q c.in-Some.a c.in-Some-as_num.b m n)))
