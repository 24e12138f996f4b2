use Rattle.std.proofs.Common.{subst, sym, ap, ◌∙◌, ℕ, List, ◌++◌}
use Rattle.hk_search.specs.AnswerTexts.{finding_text, IsAnswerText}
use Rattle.hk_search.proofs.AnswerLines.{IsAnswerText-finding}
use Rattle.hkdd.proofs.due.answered.Goals as goal

pub returns-clause-text : goal.returns-clause-text
returns-clause-text c =
    let text = finding_text c.args.problem.now c.in_ok-answer.answer in
    subst (λ all. IsAnswerText c.args.problem.now all) (sym (c.in_ok-answer_text.ensures.text ∙ ap (λ (front : List ℕ). front ++ text) c.new-text.ensures))
    (IsAnswerText-finding c.args.problem.now c.in_ok-answer.answer c.in_ok-answer.ensures)
