use Rattle.std.proofs.Common.{[], map, refl, sym, rules}
use Rattle.hk_text.specs.Texts.{texts_of}
use Rattle.hk_lines.specs.Phrases.{NamesThen}
use Rattle.hk_lines.specs.inside.Capped.{BeginsWithout}
use Rattle.hk_text.proofs.TokenTexts.{texts_over, texts_go_on}
use Rattle.hk_lines.proofs.Membership.{now_of}
use Rattle.hk_lines.proofs.PostPhrases.{whole_scope_said, no_names_no_scope, more_no_scope, closed_no_scope}
use Rattle.hk_lines.proofs.posts.whole_scope_of.Goals as goal

pub returns-in_default-clause-none : goal.returns-in_default-clause-none
returns-in_default-clause-none c = λ _. closed_no_scope (c.in_default.ensures.none refl)

pub returns-in_default-2-clause-none : goal.returns-in_default-2-clause-none
returns-in_default-2-clause-none c =
    let none : BeginsWithout NamesThen (texts_of c.args.line.now c.in-Some.open.now) = search rules in
    λ _. no_names_no_scope c.in-Some.ensures.some (λ names. none names [])

pub returns-then-not-is_empty-clause-none : goal.returns-then-not-is_empty-clause-none
returns-then-not-is_empty-clause-none c =
    let names : NamesThen (texts_of c.args.line.now c.in-Some.open.now) (map now_of c.in-Some-2.names) (texts_of c.args.line.now c.in-Some-2.rest.now) = search rules in
    λ _. more_no_scope c.in-Some.ensures.some names (texts_go_on c.args.line.now c.in-Some-2.rest.now (sym c.if-not-is_empty.ensures))

pub returns-clause-some : goal.returns-clause-some
returns-clause-some c =
    let names : NamesThen (texts_of c.args.line.now c.in-Some.open.now) (map now_of c.in-Some-2.names) (texts_of c.args.line.now c.in-Some-2.rest.now) = search rules in
    whole_scope_said c.in-Some.ensures.some names (texts_over c.args.line.now c.in-Some-2.rest.now (sym c.if-not-is_empty.ensures))
