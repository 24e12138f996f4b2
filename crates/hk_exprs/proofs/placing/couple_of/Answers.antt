use Rattle.hk_exprs.proofs.FramesKept.{instead}
use Rattle.hk_exprs.proofs.KeepingBoth.{couple_no_first, couple_no_second, couple_made}
use Rattle.hk_exprs.specs.inside.Machines as machine
use Rattle.hk_exprs.proofs.placing.couple_of.Goals as goal

pub as_num-requires : goal.as_num-requires
as_num-requires c = record { few = c.requires.few; kept = c.requires.kept.0 }

pub as_num-requires-2 : goal.as_num-requires-2
as_num-requires-2 c = record { few = c.requires.few; kept = c.requires.kept.1 }

pub returns-in_default : goal.returns-in_default
returns-in_default c = λ x y h k. instead c.none_of.ensures (couple_no_first (machine.as_num x) (machine.as_num y) (c.in_default.ensures x h))

pub returns-in_default-as_num : goal.returns-in_default-as_num
returns-in_default-as_num c = λ x y h k. instead c.none_of-in_default-as_num.ensures (couple_no_second (machine.as_num x) (machine.as_num y) (c.in_default-as_num.ensures y k))

pub returns : goal.returns
returns c = λ x y h k. couple_made (machine.as_num x) (machine.as_num y) (c.in-Some.ensures x h) (c.in-Some-as_num.ensures y k)
