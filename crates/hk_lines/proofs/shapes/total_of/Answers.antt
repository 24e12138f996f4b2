use Rattle.std.proofs.Common.{map, refl, rules}
use Rattle.hk_text.specs.Texts.{texts_of}
use Rattle.hk_lines.specs.Plain.{terms_of}
use Rattle.hk_lines.specs.Phrases.{TermsThen}
use Rattle.hk_lines.specs.Shapes.{capped_term}
use Rattle.hk_lines.specs.inside.Capped.{BeginsCapped}
use Rattle.hk_lines.proofs.Shaping.{total_said, no_total}
use Rattle.hk_lines.proofs.shapes.total_of.Goals as goal

pub returns-in_default-bounds_of-clause-none : goal.returns-in_default-bounds_of-clause-none
returns-in_default-bounds_of-clause-none c =
    let terms : BeginsCapped TermsThen (map capped_term) (texts_of c.args.line.now c.in-Some.open.now) (terms_of c.in-Some-2.terms) (texts_of c.args.line.now c.in-Some-2.rest.now) = search rules in
    λ _. no_total c.in-Some.ensures.some terms (c.in_default-bounds_of.ensures.none refl)

pub returns-clause-shape : goal.returns-clause-shape
returns-clause-shape c =
    let terms : BeginsCapped TermsThen (map capped_term) (texts_of c.args.line.now c.in-Some.open.now) (terms_of c.in-Some-2.terms) (texts_of c.args.line.now c.in-Some-2.rest.now) = search rules in
    total_said c.in-Some.ensures.some terms c.in-Some-bounds_of.ensures.some
