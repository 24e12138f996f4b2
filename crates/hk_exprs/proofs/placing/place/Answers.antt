use Rattle.hk_exprs.proofs.FramesKept.{instead}
use Rattle.hk_exprs.proofs.KeepingFrames.{from_empty, from_turned, from_one, from_neg, from_after, from_two, from_not, from_first, from_second, from_both}
use Rattle.hk_exprs.specs.inside.Machines as machine
use Rattle.hk_terms.specs.Names as names
use Rattle.hk_exprs.specs.inside.Standing.{BothOrNone, neither, both_there, IsKept, IsKeptFrame, kept_one, kept_neg, kept_two, kept_second, kept_both}
use Rattle.hk_exprs.specs.declared.frames.Frame.{Frame}
use Rattle.hk_exprs.specs.declared.operands.Operand.{Operand}
use Rattle.std.proofs.Common.{Option}
use Rattle.hk_exprs.proofs.placing.place.Goals as goal

-- what is placed in any frame that this one is kept of
abbrev Placed : names.Names → Operand → Option Frame → machine.Frame → Type 0
Placed names operand next f = (x : machine.Operand) → IsKept names x operand → BothOrNone (IsKeptFrame names) (machine.place f x) next

pub returns-in-Empty : goal.returns-in-Empty
returns-in-Empty c = λ names f x kept k. from_empty (Placed names c.args.operand _) c.in-Empty.is (λ x k. both_there (kept_one k)) f kept x k

pub returns-in-Turned : goal.returns-in-Turned
returns-in-Turned c = λ names f x kept k. from_turned (Placed names c.args.operand _) c.in-Turned.is (λ x k. both_there (kept_neg k)) f kept x k

pub returns-in-One : goal.returns-in-One
returns-in-One c = λ names f x kept k. from_one (Placed names c.args.operand _) c.in-One.is (λ w h x k. c.after_word.ensures names w x h k) f kept x k

pub returns-in-After : goal.returns-in-After
returns-in-After c = λ names f x kept k. from_after (Placed names c.args.operand _) c.in-After.is (λ a h x k. both_there (kept_two h k)) f kept x k

pub returns-in-First : goal.returns-in-First
returns-in-First c = λ names f x kept k. from_first (Placed names c.args.operand _) c.in-First.is (λ x k. both_there (kept_second k)) f kept x k

pub returns-in-Second : goal.returns-in-Second
returns-in-Second c = λ names f x kept k. from_second (Placed names c.args.operand _) c.in-Second.is (λ a h x k. both_there (kept_both h k)) f kept x k

pub returns-in-Neg : goal.returns-in-Neg
returns-in-Neg c = λ names f x kept k. from_neg (Placed names c.args.operand _) c.in-Neg.is (λ a h x k. instead c.none_of.ensures neither) f kept x k

pub returns-in-Two : goal.returns-in-Two
returns-in-Two c = λ names f x kept k. from_two (Placed names c.args.operand _) c.in-Two.is (λ a b h l x k. instead c.none_of-in-Two.ensures neither) f kept x k

pub returns-in-NotOf : goal.returns-in-NotOf
returns-in-NotOf c = λ names f x kept k. from_not (Placed names c.args.operand _) c.in-NotOf.is (λ a h x k. instead c.none_of-in-NotOf.ensures neither) f kept x k

pub returns-in-Both : goal.returns-in-Both
returns-in-Both c = λ names f x kept k. from_both (Placed names c.args.operand _) c.in-Both.is (λ a b h l x k. instead c.none_of-in-Both.ensures neither) f kept x k
