use Rattle.std.proofs.Common.{is_some, refl, ap, rules}
use Rattle.hk_text.specs.Texts.{texts_of}
use Rattle.hk_lines.specs.Phrases.{AreCounting}
use Rattle.hk_lines.specs.Plain.{plain_counting}
use Rattle.hk_lines.specs.Shapes.{capped_counting}
use Rattle.hk_lines.specs.inside.Capped.{IsCapped, AreNone}
use Rattle.hk_lines.proofs.CountShaping.{sequence_said, no_sequence, no_window, no_window_scope}
use Rattle.hk_lines.proofs.shapes.sequence_of.Goals as goal

pub returns-in_default-clause-none : goal.returns-in_default-clause-none
returns-in_default-clause-none c = λ _. no_window (c.in_default.ensures.none refl)

pub returns-in_default-after_text-clause-none : goal.returns-in_default-after_text-clause-none
returns-in_default-after_text-clause-none c = λ _. no_window_scope c.in-Some.ensures.some (c.in_default-after_text.ensures.none refl)

pub returns-in_default-2-clause-none : goal.returns-in_default-2-clause-none
returns-in_default-2-clause-none c =
    let none : AreNone AreCounting (texts_of c.args.line.now c.in-Some-after_text.open.now) = c.in_ok-counting.ensures.none (ap is_some c.in_default-2.is) in
    λ _. no_sequence c.in-Some.ensures.some c.in-Some-after_text.ensures.some none

pub returns-clause-shape : goal.returns-clause-shape
returns-clause-shape c =
    let counting : IsCapped AreCounting capped_counting (texts_of c.args.line.now c.in-Some-after_text.open.now) (plain_counting c.in-Some-2.counting) = search rules in
    sequence_said c.in-Some.ensures.some c.in-Some-after_text.ensures.some counting
