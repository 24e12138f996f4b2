use Rattle.std.proofs.Common.{length, refl, ap, ◌∙◌, arith}
use Rattle.std.proofs.lemmas.List.{nil_from_length}
use Rattle.std.proofs.lemmas.Option.{slice_get_read, slice_get_past}
use Rattle.std.proofs.lemmas.Bool.Decides.{nat_tests}
use Rattle.hk_parse.specs.BlockLines.{last_step}
use Rattle.hk_parse.proofs.LastSteps.{no_last, with_kind, last_is}
use Rattle.hk_parse.proofs.blocks.last_step.Goals as goal

pub returns-in_err-step-clause-none : goal.returns-in_err-step-clause-none
returns-in_err-step-clause-none c = λ _. ap (last_step c.args.properties.now) (nil_from_length c.args.steps.now c.in_err-step.ensures.cases) ∙ no_last c.args.properties.now

pub returns-in-Some-clause-some : goal.returns-in-Some-clause-some
returns-in-Some-clause-some c =
    let properties = c.args.properties.now in
    let before = c.in_ok-step.before.now in
    let there = slice_get_read properties (length properties) (length before) c.in-Some.property.now refl (let is = c.in-Some.ensures.lookup.0 in grind (arith, nat_tests, is)) c.in-Some.ensures.lookup.1 in
    ap (last_step properties) c.in_ok-step.ensures.cases.0 ∙ last_is properties before c.in_ok-step.step.now ∙ ap (λ p. with_kind p c.in_ok-step.step.now) there

pub returns-in-None-clause-none : goal.returns-in-None-clause-none
returns-in-None-clause-none c = λ _.
    let properties = c.args.properties.now in
    let before = c.in_ok-step.before.now in
    let none = slice_get_past properties (length before) c.in-None.ensures.lookup.3 in
    ap (last_step properties) c.in_ok-step.ensures.cases.0 ∙ last_is properties before c.in_ok-step.step.now ∙ ap (λ p. with_kind p c.in_ok-step.step.now) none
