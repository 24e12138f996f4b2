use Rattle.std.proofs.Common.{◌≡◌, ◌≢◌, [], Some, IsSome, is_some, sym, subst, ap, ◌∙◌}
use Rattle.std.proofs.lemmas.Result.{on_ok_weaker, IfErr-weaker}
use Rattle.hk_text.specs.Texts.{texts_of}
use Rattle.hk_text.specs.Tokens.{HasTexts}
use Rattle.hk_model.specs.inside.Faults.{IsLineFault}
use Rattle.hk_model.specs.Models.{Declared, good_empty}
use Rattle.hk_text.proofs.TokenTexts.{texts_over, texts_go_on}
use Rattle.hk_model.proofs.InsideLines.{fault_inside, ungraded_inside, goes_on, ends}
use Rattle.hk_model.proofs.declared.Declared.read.Goals as goal

pub returns-then-is_empty-clause-ok : goal.returns-then-is_empty-clause-ok
returns-then-is_empty-clause-ok c = good_empty (subst (HasTexts c.args.line.now) (texts_over c.args.line.now c.args.tokens.now (sym c.is_empty.ensures ∙ c.if-is_empty.true)) c.requires.has)

pub returns-in-Ok-true-clause-ok : goal.returns-in-Ok-true-clause-ok
returns-in-Ok-true-clause-ok c =
    let is : c.args.self.now.block ≡ Some c.in-Some.block = ap (λ (d : Declared). d.block) (sym c.self.view_is) ∙ c.in-Some.is in
    let over = rw c.in-Ok-true.field-0-test at c.in-Ok-true.ensures.ok in
    on_ok_weaker c.end.result (ends c.args.self.now c.requires.has is _ c.self.view_is c.end.new.self over.0 over.1) c.end.ensures.ok

pub returns-in-Ok-false-clause-ok : goal.returns-in-Ok-false-clause-ok
returns-in-Ok-false-clause-ok c =
    let is : c.args.self.now.block ≡ Some c.in-Some.block = ap (λ (d : Declared). d.block) (sym c.self.view_is) ∙ c.in-Some.is in
    on_ok_weaker c.judge_latest.result (goes_on c.args.self.now c.requires.has is _ c.self.view_is (rw c.in-Ok-false.field-0-test at c.in-Ok-false.ensures.ok)) c.judge_latest.ensures.ok

pub returns-in-Ok-false-clause-err : goal.returns-in-Ok-false-clause-err
returns-in-Ok-false-clause-err c =
    let is : c.args.self.now.block ≡ Some c.in-Some.block = ap (λ (d : Declared). d.block) (sym c.self.view_is) ∙ c.in-Some.is in
    let started : IsSome c.args.self.now.problem = subst (λ (d : Declared). IsSome d.problem) c.self.view_is (c.self.invariant (ap is_some c.in-Some.is)) in
    let more = rw c.in-Ok-false.field-0-test at c.in-Ok-false.ensures.ok in
    IfErr-weaker c.judge_latest.result _ (IsLineFault c.args.self.now c.args.line.now)
    (λ fault bad. subst (IsLineFault c.args.self.now c.args.line.now) (sym bad.0) (ungraded_inside c.args.self.now c.requires.has is c.add.ensures.rules started more bad.1))
    c.judge_latest.ensures.err

pub returns-in-Err-clause-err : goal.returns-in-Err-clause-err
returns-in-Err-clause-err c =
    let is : c.args.self.now.block ≡ Some c.in-Some.block = ap (λ (d : Declared). d.block) (sym c.self.view_is) ∙ c.in-Some.is in
    let started : IsSome c.args.self.now.problem = subst (λ (d : Declared). IsSome d.problem) c.self.view_is (c.self.invariant (ap is_some c.in-Some.is)) in
    let some : texts_of c.args.line.now c.args.tokens.now ≢ [] = texts_go_on c.args.line.now c.args.tokens.now (sym c.is_empty.ensures ∙ c.if-is_empty.false) in
    subst (IsLineFault c.args.self.now c.args.line.now) (sym c.line_fault.ensures) (fault_inside c.args.self.now c.requires.has is c.add.ensures.rules some started c.in-Err.fault c.in-Err.ensures.err)
