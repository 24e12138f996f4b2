use Rattle.std.proofs.Common.{refl, sym, ◌∙◌, arith}
use Rattle.hk_exprs.proofs.MachineSteps.{true_false}
use Rattle.hk_exprs.proofs.StepsTaken.{some_then, took_along, stuck_along}
use Rattle.hk_exprs.proofs.stepping.step_other.Goals as goal

pub after_text-requires : goal.after_text-requires
after_text-requires c = c.requires.tokens

pub step_minus-requires : goal.step_minus-requires
step_minus-requires c = record { tokens = c.in-Some.ensures.tokens }

pub step_atom-requires : goal.step_atom-requires
step_atom-requires c = record {
  tokens = c.requires.tokens;
  few = c.requires.few;
  opens = c.requires.opens;
  closes = c.requires.closes;
  minus = c.in-None.ensures.none refl;
  awaits = λ f kept waits begins. true_false (sym waits ∙ c.requires.awaits f kept);
}

pub returns-in-Some : goal.returns-in-Some
returns-in-Some c = record {
  some = some_then c.step_minus.result (λ found is f frames kept. took_along c.in-Some.ensures.some (is c.args.names.now f frames kept (c.requires.awaits f kept))) c.step_minus.ensures.some;
  tokens = c.step_minus.ensures.tokens;
  shorter = some_then c.step_minus.result (λ found is. omega (arith, c.in-Some.ensures.shorter, is)) c.step_minus.ensures.shorter;
  none = λ none f frames kept. stuck_along c.in-Some.ensures.some (c.step_minus.ensures.none none c.args.names.now f frames kept (c.requires.awaits f kept));
}

pub returns-in-None : goal.returns-in-None
returns-in-None c = record {
  some = c.step_atom.ensures.some;
  tokens = c.step_atom.ensures.tokens;
  shorter = c.step_atom.ensures.shorter;
  none = c.step_atom.ensures.none;
}
