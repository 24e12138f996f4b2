use Rattle.hk_search.specs.AnswerTexts.{answer_lines}
use Rattle.hk_text.proofs.Appending.{Appended}
use Rattle.hk_search.proofs.texts.push_lines.Given as goal

abbrev pub invariant-loop-name : goal.invariant-loop-name
invariant-loop-name l = Appended l.fn.out l.out (answer_lines l.names l.values) (answer_lines l.name-iterator.a.rest.now l.name-iterator.b.rest.now)
