use Rattle.std.proofs.Common.{refl}
use Rattle.hk_exprs.specs.inside.Machines as machine
use Rattle.hk_exprs.specs.inside.Machines.{step_mark}
use Rattle.hk_exprs.specs.inside.Standing.{kept_one, kept_after}
use Rattle.hk_terms.specs.declared.marks.Mark.TheVariants.{Minus}
use Rattle.hk_exprs.proofs.StepsTaken.{not_none, some_then}
use Rattle.hk_exprs.proofs.stepping.step_one.Goals as goal

pub mark_then-requires : goal.mark_then-requires
mark_then-requires c = c.requires.tokens

pub step_atom-requires : goal.step_atom-requires
step_atom-requires c = record {
  tokens = c.requires.tokens;
  few = c.requires.few;
  opens = c.requires.opens;
  closes = c.requires.closes;
  minus = λ rest is. c.in-None.ensures.none refl (Minus, rest, is);
  awaits = λ f kept waits begins. c.in-None.ensures.none refl begins;
}

pub returns-in-Some : goal.returns-in-Some
returns-in-Some c = record {
  some = λ x frames kept. (machine.After x c.in-Some.mark, step_mark c.in-Some.ensures.some, kept_after kept);
  tokens = c.in-Some.ensures.tokens;
  shorter = c.in-Some.ensures.shorter;
  none = not_none;
}

pub returns-in-None : goal.returns-in-None
returns-in-None c = record {
  some = some_then c.step_atom.result (λ found is x frames kept. is (machine.One x) frames (kept_one kept)) c.step_atom.ensures.some;
  tokens = c.step_atom.ensures.tokens;
  shorter = c.step_atom.ensures.shorter;
  none = λ none x frames kept. c.step_atom.ensures.none none (machine.One x) frames (kept_one kept);
}
