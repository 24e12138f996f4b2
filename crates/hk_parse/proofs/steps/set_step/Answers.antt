use Rattle.hk_text.specs.Texts.{texts_of}
use Rattle.hk_exprs.specs.Reads.{ReadsSet}
use Rattle.hk_parse.proofs.StepTexts.{some_is, set_step_read, set_step_flaw}
use Rattle.hk_parse.proofs.steps.set_step.Goals as goal

pub returns-in-Some-Ok-clause-some : goal.returns-in-Some-Ok-clause-some
returns-in-Some-Ok-clause-some c =
    set_step_read (some_is (ReadsSet c.args.names.now (texts_of c.args.line.now c.args.tokens.now)) c.in_ok-read_set.ensures.some c.in-Some-Ok.is c.in-Some-Ok.field-0-is)

pub returns-in-Some-Err-clause-some : goal.returns-in-Some-Err-clause-some
returns-in-Some-Err-clause-some c =
    set_step_flaw c.in-Some-Err.flaw (some_is (ReadsSet c.args.names.now (texts_of c.args.line.now c.args.tokens.now)) c.in_ok-read_set.ensures.some c.in-Some-Err.is c.in-Some-Err.field-0-is)
