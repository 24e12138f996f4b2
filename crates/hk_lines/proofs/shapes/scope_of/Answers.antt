use Rattle.std.proofs.Common.{[], map, sym, rules}
use Rattle.hk_text.specs.Texts.{texts_of}
use Rattle.hk_lines.specs.Phrases.{NamesThen}
use Rattle.hk_lines.specs.inside.Capped.{BeginsWithout}
use Rattle.hk_text.proofs.TokenTexts.{texts_over, texts_go_on}
use Rattle.hk_lines.proofs.Membership.{now_of}
use Rattle.hk_lines.proofs.Shaping.{distinct_said, no_distinct, no_more_distinct}
use Rattle.hk_lines.proofs.shapes.scope_of.Goals as goal

pub returns-in_default-2-clause-none : goal.returns-in_default-2-clause-none
returns-in_default-2-clause-none c =
    let none : BeginsWithout NamesThen (texts_of c.args.line.now c.in-Some.open.now) = search rules in
    λ _. no_distinct c.in-Some.ensures.some (λ names. none names [])

pub returns-then-not-is_empty-clause-none : goal.returns-then-not-is_empty-clause-none
returns-then-not-is_empty-clause-none c =
    let names : NamesThen (texts_of c.args.line.now c.in-Some.open.now) (map now_of c.in-Some-2.names) (texts_of c.args.line.now c.in-Some-2.rest.now) = search rules in
    λ _. no_more_distinct c.in-Some.ensures.some names (texts_go_on c.args.line.now c.in-Some-2.rest.now (sym c.if-not-is_empty.ensures))

pub returns-clause-shape : goal.returns-clause-shape
returns-clause-shape c =
    let names : NamesThen (texts_of c.args.line.now c.in-Some.open.now) (map now_of c.in-Some-2.names) (texts_of c.args.line.now c.in-Some-2.rest.now) = search rules in
    distinct_said c.in-Some.ensures.some names (texts_over c.args.line.now c.in-Some-2.rest.now (sym c.if-not-is_empty.ensures))
