use Rattle.std.proofs.Common.{subst, sym, IfOk}
use Rattle.hk_text.specs.Texts.{texts_of}
use Rattle.hk_parse.proofs.StepTexts.{AreNoStep, max_step_read, all_step_read, max_step_none, all_step_none}
use Rattle.hk_parse.proofs.steps.read_step.Goals as goal

pub returns-in-Min-clause-none : goal.returns-in-Min-clause-none
returns-in-Min-clause-none c = subst (λ kind. IfOk c.number_step.result (AreNoStep kind (texts_of c.args.line.now c.args.tokens.now))) (sym c.in-Min.is) c.number_step.ensures.none

pub returns-in-Max-clause-some : goal.returns-in-Max-clause-some
returns-in-Max-clause-some c = max_step_read _ _ _ c.in-Max.is c.number_step-in-Max.ensures.some

pub returns-in-Max-clause-none : goal.returns-in-Max-clause-none
returns-in-Max-clause-none c = max_step_none _ _ c.in-Max.is c.number_step-in-Max.ensures.none

pub returns-in-Interval-clause-none : goal.returns-in-Interval-clause-none
returns-in-Interval-clause-none c = subst (λ kind. IfOk c.interval_step.result (AreNoStep kind (texts_of c.args.line.now c.args.tokens.now))) (sym c.in-Interval.is) c.interval_step.ensures.none

pub returns-in-SomeBits-clause-none : goal.returns-in-SomeBits-clause-none
returns-in-SomeBits-clause-none c = subst (λ kind. IfOk c.set_step.result (AreNoStep kind (texts_of c.args.line.now c.args.tokens.now))) (sym c.in-SomeBits.is) c.set_step.ensures.none

pub returns-in-AllBits-clause-some : goal.returns-in-AllBits-clause-some
returns-in-AllBits-clause-some c = all_step_read _ _ _ c.in-AllBits.is c.set_step-in-AllBits.ensures.some

pub returns-in-AllBits-clause-none : goal.returns-in-AllBits-clause-none
returns-in-AllBits-clause-none c = all_step_none _ _ c.in-AllBits.is c.set_step-in-AllBits.ensures.none
