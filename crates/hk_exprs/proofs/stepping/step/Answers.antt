use Rattle.std.proofs.Common.{◌∷◌, is_some, ap, arith, refl, rules}
use Rattle.hk_exprs.specs.inside.Machines as machine
use Rattle.hk_exprs.specs.inside.Machines.{step_open}
use Rattle.hk_exprs.proofs.StepsTaken.{not_none, some_then}
use Rattle.hk_exprs.proofs.stepping.step.Goals as goal

pub after_text-requires : goal.after_text-requires
after_text-requires c = c.requires.tokens

pub after_text-requires-2 : goal.after_text-requires-2
after_text-requires-2 c = c.requires.tokens

pub returns-in_err-next : goal.returns-in_err-next
returns-in_err-next c = search rules

pub returns-in_err-shut : goal.returns-in_err-shut
returns-in_err-shut c = search rules

pub returns-in-Some : goal.returns-in-Some
returns-in-Some c = record {
  some = λ f frames kept are.
      let is = c.in_ok-next.ensures c.args.names.now f frames kept are in
      (machine.Empty, f ∷ frames, step_open c.in-Some.ensures.some, is.0, is.1);
  tokens = c.in-Some.ensures.tokens;
  shorter = omega (arith, c.in-Some.ensures.shorter);
  none = not_none;
}

pub shut-requires : goal.shut-requires
shut-requires c = record { few = c.requires.few; kept = (c.requires.kept.0, c.requires.kept.2) }

pub returns-in-None : goal.returns-in-None
returns-in-None c = record {
  some = tt;
  tokens = tt;
  shorter = tt;
  none = λ _ f frames kept are. c.in_ok-shut.ensures.none (ap is_some c.in-None.is) f frames _ _ kept are c.in-Some-after_text.ensures.some;
}

pub returns-in-Some-2 : goal.returns-in-Some-2
returns-in-Some-2 c = record {
  some =
      let shut = rw c.in-Some-2.is at c.in_ok-shut.ensures.some in
      λ f frames kept are. shut f frames _ _ kept are c.in-Some-after_text.ensures.some;
  tokens = c.in-Some-after_text.ensures.tokens;
  shorter = omega (arith, c.in-Some-after_text.ensures.shorter);
  none = not_none;
}

pub step_within-requires : goal.step_within-requires
step_within-requires c = record {
  tokens = c.requires.tokens;
  few = c.requires.few;
  opens = c.in_default.ensures.none refl;
  closes = c.in_default-after_text.ensures.none refl;
}

pub returns : goal.returns
returns c = record {
  some = some_then c.step_within.result (λ found is f frames kept are. let made = is f frames kept in (made.0, frames, made.1, made.2, are)) c.step_within.ensures.some;
  tokens = c.step_within.ensures.tokens;
  shorter = c.step_within.ensures.shorter;
  none = λ none f frames kept are. c.step_within.ensures.none none f frames kept;
}
