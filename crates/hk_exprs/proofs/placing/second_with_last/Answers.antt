use Rattle.std.proofs.Common.{subst}
use Rattle.hk_exprs.proofs.FramesKept.{mapped, mapped_none}
use Rattle.hk_exprs.specs.inside.Machines as machine
use Rattle.hk_exprs.specs.inside.Standing.{BothOrNone, IsKept, kept_second}
use Rattle.hk_exprs.proofs.placing.second_with_last.Goals as goal

pub returns-in-Ok-Some : goal.returns-in-Ok-Some
returns-in-Ok-Some c = λ y k more kept. mapped machine.Second (subst (BothOrNone (IsKept c.args.names.now) (machine.applied y k)) c.in-Ok-Some.field-0-is (c.in-Ok-Some.ensures y k more kept)) (λ z last. kept_second last)

pub returns-in-Ok-None : goal.returns-in-Ok-None
returns-in-Ok-None c = λ y k more kept. mapped_none machine.Second (subst (BothOrNone (IsKept c.args.names.now) (machine.applied y k)) c.in-Ok-None.field-0-is (c.in-Ok-None.ensures y k more kept))
