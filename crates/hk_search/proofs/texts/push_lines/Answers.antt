use Rattle.std.proofs.Common.{◌≡◌, List, ℕ, [], inl, inr, subst}
use Rattle.hk_base.specs.Lists.{AppendsFront}
use Rattle.hk_search.specs.AnswerTexts.{answer_line, answer_lines}
use Rattle.hk_search.proofs.AnswerLines.{answer_lines-end, answer_lines-first}
use Rattle.hk_text.proofs.Appending.{Appended, Appended-all, AppendsFront-piece, OnErr-always}
use Rattle.hk_search.proofs.texts.push_lines.Goals as goal

pub returns-in_err-push_line-clause-front : goal.returns-in_err-push_line-clause-front
returns-in_err-push_line-clause-front c =
    let name = c.in-Some.name.now in
    let value = c.in-Some.value.now in
    let text = answer_lines c.args.names.now c.args.values.now in
    let more = answer_lines c.next.new.self.a.rest.now c.next.new.self.b.rest.now in
    let first =
    answer_lines-first c.loop-name.name-iterator.a.rest.now c.next.new.self.a.rest.now c.loop-name.name-iterator.b.rest.now c.next.new.self.b.rest.now name value
    c.in-Some.ensures.steps.0 c.in-Some.ensures.steps.1 in
    let before = subst (Appended c.args.out.now c.loop-name.out text) first c.loop-name.invariant in
    let last = subst (λ (word : List ℕ). AppendsFront c.loop-name.out c.push_line.new.out (answer_line word value)) c.as_slice.ensures c.in_err-push_line.ensures.front in
    OnErr-always c.from_residual.result
    (AppendsFront-piece c.args.out.now c.loop-name.out c.push_line.new.out text (answer_line name value) more before last)

pub returns-clause-text : goal.returns-clause-text
returns-clause-text c =
    let names = c.loop-name.name-iterator.a.rest.now in
    let values = c.loop-name.name-iterator.b.rest.now in
    let text = answer_lines c.args.names.now c.args.values.now in
    let ended : answer_lines names values ≡ [] =
    elim c.in-None.ensures.steps [ inl named ↦ answer_lines-end names values (inl named.1.0) | inr valued ↦ answer_lines-end names values (inr valued.1.0) ] in
    Appended-all c.args.out.now c.loop-name.out text (subst (Appended c.args.out.now c.loop-name.out text) ended c.loop-name.invariant)
