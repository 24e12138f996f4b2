use Rattle.std.proofs.Common.{◌∙◌, All, sym, subst, rules}
use Rattle.std.specs.Prelude.{IfSome}
use Rattle.hk_text.specs.Texts.{texts_of}
use Rattle.hk_text.specs.Tokens.{IsTokenIn}
use Rattle.hk_exprs.proofs.Runs.{Stepped, NotStepped, none_there, some_there, texts_left, run_starts, run_more, run_ends, run_open, run_stuck}
use Rattle.hk_text.proofs.TokenTexts.{texts_over}
use Rattle.hk_exprs.proofs.running.run_steps.Goals as goal

pub steps-init : goal.steps-init
steps-init c = record { tokens = c.requires.tokens; runs = run_starts c.new-outer.ensures }

pub returns-in-Ok-None-clause-none : goal.returns-in-Ok-None-clause-none
returns-in-Ok-None-clause-none c =
    let none : NotStepped c.args.names.now c.steps.inner c.steps.outer (texts_of c.args.line.now c.steps.left.now) = c.in-Ok-None.ensures.none (search rules) in
    λ _. run_stuck c.steps.invariant.runs (texts_left c.args.line.now c.steps.left.now (sym c.is_empty.ensures ∙ c.steps-test.true)) none

pub steps-preserved : goal.steps-preserved
steps-preserved c =
    let stepped : Stepped c.args.names.now c.steps.inner c.steps.outer (texts_of c.args.line.now c.steps.left.now) c.in-Ok-Some.next c.step.new.outer (texts_of c.args.line.now c.in-Ok-Some.rest.now) =
    subst (λ read. IfSome read (λ found. Stepped c.args.names.now c.steps.inner c.steps.outer (texts_of c.args.line.now c.steps.left.now) found.0 c.step.new.outer (texts_of c.args.line.now found.1.now))) c.in-Ok-Some.field-0-is c.in-Ok-Some.ensures.some
    in
    let tokens : All (IsTokenIn c.args.line.now) c.in-Ok-Some.rest.now = search rules in
    record { tokens = tokens; runs = run_more c.steps.invariant.runs stepped }

pub returns-then-not-is_empty-clause-none : goal.returns-then-not-is_empty-clause-none
returns-then-not-is_empty-clause-none c = λ _. run_open c.steps.invariant.runs (texts_over c.args.line.now c.steps.left.now (sym c.is_empty.ensures ∙ c.steps-test.false)) (some_there c.steps.outer (search rules))

pub returns-clause-some : goal.returns-clause-some
returns-clause-some c = run_ends c.steps.invariant.runs (texts_over c.args.line.now c.steps.left.now (sym c.is_empty.ensures ∙ c.steps-test.false)) (none_there c.steps.outer (search rules))
