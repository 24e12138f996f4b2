use Rattle.std.proofs.Common.{◌∷◌, codes, is_some, ap, refl, sym, subst, arith}
use Rattle.hk_text.specs.Texts.{texts_of}
use Rattle.hk_exprs.specs.inside.Machines as machine
use Rattle.hk_exprs.specs.inside.Machines.{Step, step_turned}
use Rattle.hk_exprs.specs.inside.Standing.{IsKeptFrame, kept_signed}
use Rattle.hk_exprs.proofs.MachineStuck.{stuck_minus}
use Rattle.hk_exprs.proofs.StepsTaken.{signed_placed, signed_unplaced, not_none}
use Rattle.hk_exprs.proofs.stepping.step_minus.Goals as goal

pub number_of-requires : goal.number_of-requires
number_of-requires c = c.requires.tokens

pub returns-in-None : goal.returns-in-None
returns-in-None c = record {
  some = tt;
  tokens = tt;
  shorter = tt;
  none = λ _ names f frames kept waits after rest.
      stuck_minus refl (λ begins. c.in_default.ensures.none refl begins.0 begins.1 begins.2 begins.3 begins.4) waits (λ same. c.turned.ensures.none (ap is_some c.in-None.is) names (subst (λ f. IsKeptFrame names f c.args.frame) same kept));
}

pub returns-in-Some-turned : goal.returns-in-Some-turned
returns-in-Some-turned c = record {
  some = λ names f frames kept waits.
      let made = c.in-Some-turned.ensures.some names f kept in
      let texts = texts_of c.args.line.now c.args.tokens.now in
      (machine.Turned, subst (λ f. Step (f ∷ frames) (codes "-" ∷ texts) (machine.Turned ∷ frames) texts) (sym made.0) (step_turned refl (λ begins. c.in_default.ensures.none refl begins.0 begins.1 begins.2 begins.3 begins.4)), made.1);
  tokens = c.requires.tokens;
  shorter = omega arith;
  none = not_none;
}

pub returns-in-None-place : goal.returns-in-None-place
returns-in-None-place c = record {
  some = tt;
  tokens = tt;
  shorter = tt;
  none = λ _ names f frames kept waits.
      let found = c.in-Some.ensures in
      signed_unplaced (ap (λ texts. codes "-" ∷ texts) found.some) found.number.1 waits (c.place.ensures names f (machine.Signed c.in-Some.digits.now) kept (kept_signed found.number.1)) c.in-None-place.is;
}

pub returns-in-Some-place : goal.returns-in-Some-place
returns-in-Some-place c = record {
  some = λ names f frames kept waits.
      let found = c.in-Some.ensures in
      signed_placed (ap (λ texts. codes "-" ∷ texts) found.some) found.number.1 waits (c.place.ensures names f (machine.Signed c.in-Some.digits.now) kept (kept_signed found.number.1)) c.in-Some-place.is;
  tokens = c.in-Some.ensures.tokens;
  shorter = omega (arith, c.in-Some.ensures.shorter);
  none = not_none;
}
