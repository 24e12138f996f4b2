use Rattle.std.proofs.Common.{sym, subst}
use Rattle.hk_exprs.proofs.FramesKept.{instead, ok_then}
use Rattle.hk_exprs.proofs.KeepingFrames.{from_empty, from_turned, from_one, from_neg, from_after, from_two, from_not, from_first, from_second, from_both}
use Rattle.hk_exprs.proofs.MakingConds.{cond_not}
use Rattle.hk_terms.specs.CondTexts as conds
use Rattle.hk_exprs.specs.inside.Machines as machine
use Rattle.hk_terms.specs.Names as names
use Rattle.hk_exprs.specs.inside.Standing.{IsKept, IsMadeCond, neither, both_there, kept_cond, kept_value}
use Rattle.hk_exprs.proofs.placing.closed.Goals as goal

pub one_closed-requires : goal.one_closed-requires
one_closed-requires c = record { kept = from_one (λ f. (names : names.Names) × (x : machine.Operand) × IsKept names x c.in-One.operand) c.in-One.is (λ x h. (c.args.names.now, x, h)) c.requires.kept.0 c.requires.kept.1 }

pub neg_closed-requires : goal.neg_closed-requires
neg_closed-requires c = record { few = c.requires.few; kept = from_neg (λ f. (x : machine.Operand) × IsKept c.args.names.now x c.in-Neg.operand) c.in-Neg.is (λ x h. (x, h)) c.requires.kept.0 c.requires.kept.1 }

pub two_closed-requires : goal.two_closed-requires
two_closed-requires c = record { few = c.requires.few; kept = from_two (λ f. ((x : machine.Operand) × IsKept c.args.names.now x c.in-Two.a) × ((y : machine.Operand) × IsKept c.args.names.now y c.in-Two.b)) c.in-Two.is (λ x y h k. ((x, h), (y, k))) c.requires.kept.0 c.requires.kept.1 }

pub returns-in-One : goal.returns-in-One
returns-in-One c = ok_then c.one_closed.result (λ content is. from_one _ c.in-One.is (λ x h. is c.args.names.now x h)) c.one_closed.ensures

pub returns-in-Neg : goal.returns-in-Neg
returns-in-Neg c = ok_then c.neg_closed.result (λ content is. from_neg _ c.in-Neg.is (λ x h. is x h)) c.neg_closed.ensures

pub returns-in-Two : goal.returns-in-Two
returns-in-Two c = ok_then c.two_closed.result (λ content is. from_two _ c.in-Two.is (λ x y h k. is x y h k)) c.two_closed.ensures

pub returns-in_ok-deny-in-NotOf : goal.returns-in_ok-deny-in-NotOf
returns-in_ok-deny-in-NotOf c = from_not _ c.in-NotOf.is (λ text made. both_there (kept_value (kept_cond (subst (IsMadeCond c.args.names.now (conds.Not text)) (sym c.in_ok-deny-in-NotOf.ensures) (cond_not c.args.names.now text c.in-NotOf.cond made)))))

pub returns-in-Empty : goal.returns-in-Empty
returns-in-Empty c = from_empty _ c.in-Empty.is neither

pub returns-in-Turned : goal.returns-in-Turned
returns-in-Turned c = from_turned _ c.in-Turned.is neither

pub returns-in-After : goal.returns-in-After
returns-in-After c = from_after _ c.in-After.is (λ a h. instead c.none_of.ensures neither)

pub returns-in-First : goal.returns-in-First
returns-in-First c = from_first _ c.in-First.is neither

pub returns-in-Second : goal.returns-in-Second
returns-in-Second c = from_second _ c.in-Second.is (λ a h. instead c.none_of-in-Second.ensures neither)

pub returns-in-Both : goal.returns-in-Both
returns-in-Both c = from_both _ c.in-Both.is (λ a b h k. instead c.none_of-in-Both.ensures neither)
