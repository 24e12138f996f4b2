use Rattle.std.proofs.Common.{subst, sym, ◌∙◌, true≢false}
use Rattle.hk_text.specs.Texts.{texts_of}
use Rattle.hk_parse.specs.inside.StepReads.{IsStepFault, ReadsStepOf}
use Rattle.hk_parse.proofs.StepsAdded.{some_there, step_fits, step_goes_on, step_fault}
use Rattle.hk_parse.proofs.blocks.Block.add_step.Goals as goal

pub returns-in-Err-clause-err : goal.returns-in-Err-clause-err
returns-in-Err-clause-err c =
    let part = c.args.self.now in
    let texts = texts_of c.args.line.now c.args.tokens.now in
    step_fault part c.in-Some.property.now texts (some_there part.test (λ none. true≢false (sym (c.awaits_test.ensures.1 none) ∙ c.if-awaits_test.false))) c.in-Some.ensures.some c.in-Err.fault
    (subst (λ names. IsStepFault names c.in-Some.property.now texts c.in-Err.fault) c.step_names.ensures.names c.in-Err.ensures.err)

pub push_step-requires : goal.push_step-requires
push_step-requires c =
    let part = c.args.self.now in
    let texts = texts_of c.args.line.now c.args.tokens.now in
    step_fits part c.in-Some.property.now texts (some_there part.test (λ none. true≢false (sym (c.awaits_test.ensures.1 none) ∙ c.if-awaits_test.false))) c.in-Some.ensures.some c.in-Ok.step
    (subst (λ names. ReadsStepOf names c.in-Some.property.now texts c.in-Ok.step) c.step_names.ensures.names c.in-Ok.ensures.ok)

pub returns-in-Ok-push_step-clause-ok : goal.returns-in-Ok-push_step-clause-ok
returns-in-Ok-push_step-clause-ok c =
    let part = c.args.self.now in
    let texts = texts_of c.args.line.now c.args.tokens.now in
    step_goes_on part c.in-Some.property.now texts (some_there part.test (λ none. true≢false (sym (c.awaits_test.ensures.1 none) ∙ c.if-awaits_test.false))) c.in-Some.ensures.some c.push_step.new.self c.in-Ok.step
    (subst (λ names. ReadsStepOf names c.in-Some.property.now texts c.in-Ok.step) c.step_names.ensures.names c.in-Ok.ensures.ok) c.in-Ok-push_step.ensures.ok
