use Rattle.std.proofs.Common.{map, rules}
use Rattle.hk_text.specs.Texts.{texts_of}
use Rattle.hk_lines.specs.Phrases.{NamesThen, AreRows}
use Rattle.hk_lines.specs.Plain.{rows_of}
use Rattle.hk_lines.specs.Shapes.{capped_row}
use Rattle.hk_lines.specs.inside.Capped.{BeginsWithout, IsCapped, AreNone}
use Rattle.hk_lines.proofs.CountShaping.{gcc_said, no_gcc_names, no_gcc_rows}
use Rattle.hk_lines.proofs.Membership.{now_of}
use Rattle.hk_lines.proofs.shapes.gcc_of.Goals as goal

pub returns-in_default-2-clause-none : goal.returns-in_default-2-clause-none
returns-in_default-2-clause-none c =
    let none : BeginsWithout NamesThen (texts_of c.args.line.now c.in-Some.open.now) = search rules in
    λ _. no_gcc_names c.in-Some.ensures.some none

pub returns-in_default-3-clause-none : goal.returns-in_default-3-clause-none
returns-in_default-3-clause-none c =
    let names : NamesThen (texts_of c.args.line.now c.in-Some.open.now) (map now_of c.in-Some-2.names) (texts_of c.args.line.now c.in-Some-2.rest.now) = search rules in
    let none : AreNone AreRows (texts_of c.args.line.now c.in-Some-2.rest.now) = search rules in
    λ _. no_gcc_rows c.in-Some.ensures.some names none

pub returns-clause-shape : goal.returns-clause-shape
returns-clause-shape c =
    let names : NamesThen (texts_of c.args.line.now c.in-Some.open.now) (map now_of c.in-Some-2.names) (texts_of c.args.line.now c.in-Some-2.rest.now) = search rules in
    let rows : IsCapped AreRows (map capped_row) (texts_of c.args.line.now c.in-Some-2.rest.now) (rows_of c.in-Some-3.rows) = search rules in
    gcc_said c.in-Some.ensures.some names rows
