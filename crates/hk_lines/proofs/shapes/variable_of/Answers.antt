use Rattle.std.proofs.Common.{map, sym, rules}
use Rattle.hk_text.specs.Texts.{texts_of}
use Rattle.hk_lines.specs.Plain.{values_of}
use Rattle.hk_lines.specs.Phrases.{SetThen}
use Rattle.hk_lines.specs.Shapes.{capped_values}
use Rattle.hk_lines.specs.inside.Capped.{BeginsCapped}
use Rattle.hk_text.proofs.TokenTexts.{texts_over, texts_go_on}
use Rattle.hk_lines.proofs.Shaping.{variable_said, no_variable}
use Rattle.hk_lines.proofs.Words.{word_said}
use Rattle.hk_lines.proofs.shapes.variable_of.Goals as goal

pub returns-then-not-is_empty-clause-none : goal.returns-then-not-is_empty-clause-none
returns-then-not-is_empty-clause-none c =
    let set : BeginsCapped SetThen (map capped_values) (texts_of c.args.line.now c.in-Some-after_text.after.now) (values_of c.in-Some-2.set) (texts_of c.args.line.now c.in-Some-2.rest.now) = search rules in
    λ _. no_variable (word_said c.in-Some.ensures.some c.in-Some.ensures.word) c.in-Some-after_text.ensures.some set (texts_go_on c.args.line.now c.in-Some-2.rest.now (sym c.if-not-is_empty.ensures))

pub returns-clause-shape : goal.returns-clause-shape
returns-clause-shape c =
    let set : BeginsCapped SetThen (map capped_values) (texts_of c.args.line.now c.in-Some-after_text.after.now) (values_of c.in-Some-2.set) (texts_of c.args.line.now c.in-Some-2.rest.now) = search rules in
    variable_said (word_said c.in-Some.ensures.some c.in-Some.ensures.word) c.in-Some-after_text.ensures.some set (texts_over c.args.line.now c.in-Some-2.rest.now (sym c.if-not-is_empty.ensures))
