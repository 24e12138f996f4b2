use Rattle.hk_exprs.proofs.FramesKept.{instead, ok_then}
use Rattle.hk_exprs.proofs.KeepingFrames.{from_empty, from_turned, from_one, from_neg, from_after, from_two, from_not, from_first, from_second, from_both}
use Rattle.hk_exprs.specs.inside.Machines as machine
use Rattle.hk_exprs.specs.inside.Standing.{BothOrNone, neither, IsKeptFrame}
use Rattle.hk_exprs.proofs.placing.with_last.Goals as goal

pub returns-in-One : goal.returns-in-One
returns-in-One c = ok_then c.one_with_last.result (λ next is f k has kept. from_one (λ f. BothOrNone (IsKeptFrame c.args.names.now) (machine.with_last f k) next) c.in-One.is (λ y more. is y k more kept) f has) c.one_with_last.ensures

pub returns-in-Neg : goal.returns-in-Neg
returns-in-Neg c = ok_then c.neg_with_last.result (λ next is f k has kept. from_neg (λ f. BothOrNone (IsKeptFrame c.args.names.now) (machine.with_last f k) next) c.in-Neg.is (λ y more. is y k more kept) f has) c.neg_with_last.ensures

pub returns-in-Second : goal.returns-in-Second
returns-in-Second c = ok_then c.second_with_last.result (λ next is f k has kept. from_second (λ f. BothOrNone (IsKeptFrame c.args.names.now) (machine.with_last f k) next) c.in-Second.is (λ y more. is y k more kept) f has) c.second_with_last.ensures

pub returns-in-Two : goal.returns-in-Two
returns-in-Two c = ok_then c.two_with_last.result (λ next is f k has kept. from_two (λ f. BothOrNone (IsKeptFrame c.args.names.now) (machine.with_last f k) next) c.in-Two.is (λ x y h more. is x y k h more kept) f has) c.two_with_last.ensures

pub returns-in-Both : goal.returns-in-Both
returns-in-Both c = ok_then c.both_with_last.result (λ next is f k has kept. from_both (λ f. BothOrNone (IsKeptFrame c.args.names.now) (machine.with_last f k) next) c.in-Both.is (λ x y h more. is x y k h more kept) f has) c.both_with_last.ensures

pub returns-in-Empty : goal.returns-in-Empty
returns-in-Empty c = λ f k is kept. from_empty (λ f. BothOrNone (IsKeptFrame c.args.names.now) (machine.with_last f k) c.none_of.result) c.in-Empty.is (instead c.none_of.ensures neither) f is

pub returns-in-Turned : goal.returns-in-Turned
returns-in-Turned c = λ f k is kept. from_turned (λ f. BothOrNone (IsKeptFrame c.args.names.now) (machine.with_last f k) c.none_of-in-Turned.result) c.in-Turned.is (instead c.none_of-in-Turned.ensures neither) f is

pub returns-in-After : goal.returns-in-After
returns-in-After c = λ f k is kept. from_after (λ f. BothOrNone (IsKeptFrame c.args.names.now) (machine.with_last f k) c.none_of-in-After.result) c.in-After.is (λ a h. instead c.none_of-in-After.ensures neither) f is

pub returns-in-NotOf : goal.returns-in-NotOf
returns-in-NotOf c = λ f k is kept. from_not (λ f. BothOrNone (IsKeptFrame c.args.names.now) (machine.with_last f k) c.none_of-in-NotOf.result) c.in-NotOf.is (λ a h. instead c.none_of-in-NotOf.ensures neither) f is

pub returns-in-First : goal.returns-in-First
returns-in-First c = λ f k is kept. from_first (λ f. BothOrNone (IsKeptFrame c.args.names.now) (machine.with_last f k) c.none_of-in-First.result) c.in-First.is (instead c.none_of-in-First.ensures neither) f is
