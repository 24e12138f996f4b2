use Rattle.std.proofs.Common.{map, sym, rules}
use Rattle.hk_text.specs.Texts.{texts_of}
use Rattle.hk_lines.specs.Plain.{terms_of}
use Rattle.hk_lines.specs.Phrases.{TermsThen}
use Rattle.hk_lines.specs.Shapes.{capped_term}
use Rattle.hk_lines.specs.inside.Capped.{BeginsCapped}
use Rattle.hk_text.proofs.TokenTexts.{texts_over, texts_go_on}
use Rattle.hk_lines.proofs.Shaping.{objective_said, no_objective}
use Rattle.hk_lines.proofs.shapes.objective_of.Goals as goal

pub returns-then-not-is_empty-clause-none : goal.returns-then-not-is_empty-clause-none
returns-then-not-is_empty-clause-none c =
    let terms : BeginsCapped TermsThen (map capped_term) (texts_of c.args.line.now c.in-Some.open.now) (terms_of c.in-Some-2.terms) (texts_of c.args.line.now c.in-Some-2.rest.now) = search rules in
    λ _. no_objective c.in-Some.ensures.some terms (texts_go_on c.args.line.now c.in-Some-2.rest.now (sym c.if-not-is_empty.ensures))

pub returns-clause-shape : goal.returns-clause-shape
returns-clause-shape c =
    let terms : BeginsCapped TermsThen (map capped_term) (texts_of c.args.line.now c.in-Some.open.now) (terms_of c.in-Some-2.terms) (texts_of c.args.line.now c.in-Some-2.rest.now) = search rules in
    objective_said c.in-Some.ensures.some terms (texts_over c.args.line.now c.in-Some-2.rest.now (sym c.if-not-is_empty.ensures))
