use Rattle.std.proofs.Common.{subst, IfSome}
use Rattle.hk_text.specs.Texts.{texts_of}
use Rattle.hk_parse.specs.inside.StepReads.{ReadsStep}
use Rattle.hk_parse.proofs.StepTexts.{named_read, named_fault}
use Rattle.hk_parse.proofs.steps.step_of.Goals as goal

pub returns-in-Ok-Some-clause-ok : goal.returns-in-Ok-Some-clause-ok
returns-in-Ok-Some-clause-ok c =
    named_read c.args.property.now c.in-Some.ensures.some c.in-Some.ensures.word c.in-Ok-Some.made c.named_step.result
    (subst (λ read. IfSome read (ReadsStep c.args.names.now c.args.property.now.kind (texts_of c.args.line.now c.in-Some.rest.now))) c.in-Ok-Some.field-0-is c.in-Ok-Some.ensures.some) c.named_step.ensures

pub returns-in-Ok-Some-clause-err : goal.returns-in-Ok-Some-clause-err
returns-in-Ok-Some-clause-err c =
    named_fault c.args.property.now c.in-Some.ensures.some c.in-Some.ensures.word c.in-Ok-Some.made c.named_step.result
    (subst (λ read. IfSome read (ReadsStep c.args.names.now c.args.property.now.kind (texts_of c.args.line.now c.in-Some.rest.now))) c.in-Ok-Some.field-0-is c.in-Ok-Some.ensures.some) c.named_step.ensures
