use Rattle.std.proofs.Common.{subst}
use Rattle.hk_exprs.proofs.FramesKept.{mapped, mapped_none, two_joined}
use Rattle.hk_exprs.specs.inside.Machines as machine
use Rattle.hk_exprs.specs.inside.Standing.{BothOrNone, IsKept, kept_value}
use Rattle.hk_exprs.proofs.placing.two_closed.Goals as goal

pub returns-in-None : goal.returns-in-None
returns-in-None c = λ x y h k. two_joined c.args.mark c.in_default.not-Comma x y (mapped_none machine.Value (subst (BothOrNone (IsKept c.args.names.now) (machine.joined x c.args.mark y)) c.in-None.is (c.in_ok-joined-in_default.ensures x y h k)))

pub returns-in-Some : goal.returns-in-Some
returns-in-Some c = λ x y h k. two_joined c.args.mark c.in_default.not-Comma x y (mapped machine.Value (subst (BothOrNone (IsKept c.args.names.now) (machine.joined x c.args.mark y)) c.in-Some.is (c.in_ok-joined-in_default.ensures x y h k)) (λ p m. kept_value m))
