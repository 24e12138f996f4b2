use Rattle.hk_exprs.proofs.FramesKept.{instead, ok_then, value_applied}
use Rattle.hk_exprs.proofs.KeepingFrames.{from_value, from_single, from_couple}
use Rattle.hk_exprs.specs.inside.Machines as machine
use Rattle.hk_exprs.specs.inside.Standing.{BothOrNone, IsKept}
use Rattle.hk_exprs.proofs.placing.applied.Goals as goal

pub returns-in-Value : goal.returns-in-Value
returns-in-Value c = λ x k h kept. from_value (λ k. BothOrNone (IsKept c.args.names.now) (machine.applied x k) c.none_of.result) c.in-Value.is (λ y more. instead c.none_of.ensures (value_applied x y)) k kept

pub returns-in-Single : goal.returns-in-Single
returns-in-Single c = ok_then c.counted.result (λ made is x k h kept. from_single (λ k. BothOrNone (IsKept c.args.names.now) (machine.applied x k) made) c.in-Single.is (λ y more. is x y h more) k kept) c.counted.ensures

pub returns-in-Couple : goal.returns-in-Couple
returns-in-Couple c = ok_then c.chosen.result (λ made is x k h kept. from_couple (λ k. BothOrNone (IsKept c.args.names.now) (machine.applied x k) made) c.in-Couple.is (λ p q m n. is c.args.names.now x p q h m n) k kept) c.chosen.ensures
