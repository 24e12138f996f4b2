use Rattle.std.proofs.Common.{is_some, ap, rules}
use Rattle.hk_text.specs.Texts.{texts_of}
use Rattle.hk_lines.specs.Phrases.{AreCounting}
use Rattle.hk_lines.specs.Plain.{plain_counting}
use Rattle.hk_lines.specs.Shapes.{capped_counting}
use Rattle.hk_lines.specs.inside.Capped.{IsCapped, AreNone}
use Rattle.hk_lines.proofs.CountShaping.{among_said, no_among}
use Rattle.hk_lines.proofs.shapes.among_of.Goals as goal

pub returns-in_default-2-clause-none : goal.returns-in_default-2-clause-none
returns-in_default-2-clause-none c =
    let none : AreNone AreCounting (texts_of c.args.line.now c.in-Some.open.now) = c.in_ok-counting.ensures.none (ap is_some c.in_default-2.is) in
    λ _. no_among c.in-Some.ensures.some none

pub returns-clause-shape : goal.returns-clause-shape
returns-clause-shape c =
    let counting : IsCapped AreCounting capped_counting (texts_of c.args.line.now c.in-Some.open.now) (plain_counting c.in-Some-2.counting) = search rules in
    among_said c.in-Some.ensures.some counting
