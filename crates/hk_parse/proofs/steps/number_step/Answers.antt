use Rattle.hk_text.specs.Texts.{texts_of}
use Rattle.hk_exprs.specs.Reads.{ReadsNum}
use Rattle.hk_parse.proofs.StepTexts.{some_is, number_step_read, number_step_flaw}
use Rattle.hk_parse.proofs.steps.number_step.Goals as goal

pub returns-in-Some-Ok-clause-some : goal.returns-in-Some-Ok-clause-some
returns-in-Some-Ok-clause-some c =
    number_step_read (some_is (ReadsNum c.args.names.now (texts_of c.args.line.now c.args.tokens.now)) c.in_ok-read_num.ensures.some c.in-Some-Ok.is c.in-Some-Ok.field-0-is)

pub returns-in-Some-Err-clause-some : goal.returns-in-Some-Err-clause-some
returns-in-Some-Err-clause-some c =
    number_step_flaw c.in-Some-Err.flaw (some_is (ReadsNum c.args.names.now (texts_of c.args.line.now c.args.tokens.now)) c.in_ok-read_num.ensures.some c.in-Some-Err.is c.in-Some-Err.field-0-is)
