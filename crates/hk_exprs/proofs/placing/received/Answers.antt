use Rattle.hk_exprs.proofs.FramesKept.{ok_then, last_received}
use Rattle.hk_exprs.proofs.KeepingFrames.{from_value}
use Rattle.hk_exprs.specs.inside.Machines as machine
use Rattle.hk_exprs.specs.inside.Standing.{BothOrNone, IsKeptFrame}
use Rattle.hk_exprs.proofs.placing.received.Goals as goal

pub returns-in-Value : goal.returns-in-Value
returns-in-Value c = λ f k h kept. from_value (λ k. BothOrNone (IsKeptFrame c.args.names.now) (machine.received f k) c.place.result) c.in-Value.is (λ x more. c.place.ensures c.args.names.now f x h more) k kept

pub returns-in_default : goal.returns-in_default
returns-in_default c = ok_then c.with_last.result (λ next is f k h kept. last_received c.in_default.not-Value f k kept (is f k h kept)) c.with_last.ensures
