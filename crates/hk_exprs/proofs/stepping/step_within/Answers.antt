use Rattle.hk_text.specs.Texts.{texts_of}
use Rattle.hk_exprs.proofs.KeepingFrames.{from_one}
use Rattle.hk_exprs.proofs.StepsTaken.{awaits_none, some_then, Took, Stuck}
use Rattle.hk_exprs.proofs.stepping.step_within.Goals as goal

pub step_one-requires : goal.step_one-requires
step_one-requires c = record { tokens = c.requires.tokens; few = c.requires.few; opens = c.requires.opens; closes = c.requires.closes }

pub step_other-requires : goal.step_other-requires
step_other-requires c = record {
  tokens = c.requires.tokens;
  few = c.requires.few;
  opens = c.requires.opens;
  closes = c.requires.closes;
  awaits = awaits_none c.in_default.not-One;
}

pub returns-in-One : goal.returns-in-One
returns-in-One c = record {
  some = some_then c.step_one.result (λ found is f frames kept. from_one (λ f. Took c.args.names.now f frames (texts_of c.args.line.now c.args.tokens.now) found.0 (texts_of c.args.line.now found.1.now)) c.in-One.is (λ x h. is x frames h) f kept) c.step_one.ensures.some;
  tokens = c.step_one.ensures.tokens;
  shorter = c.step_one.ensures.shorter;
  none = λ none f frames kept. from_one (λ f. Stuck f frames (texts_of c.args.line.now c.args.tokens.now)) c.in-One.is (λ x h. c.step_one.ensures.none none x frames h) f kept;
}

pub returns-in_default : goal.returns-in_default
returns-in_default c = record {
  some = c.step_other.ensures.some;
  tokens = c.step_other.ensures.tokens;
  shorter = c.step_other.ensures.shorter;
  none = c.step_other.ensures.none;
}
