use Rattle.std.proofs.Common.{map, refl, rules}
use Rattle.hk_text.specs.Texts.{texts_of}
use Rattle.hk_lines.specs.Phrases.{NamesThen, SetThen}
use Rattle.hk_lines.specs.Plain.{values_of}
use Rattle.hk_lines.specs.Shapes.{capped_values}
use Rattle.hk_lines.specs.inside.Capped.{BeginsCapped, BeginsWithout}
use Rattle.hk_lines.proofs.CountReading.{counting_said, no_set_counting, no_counts_counting}
use Rattle.hk_lines.proofs.Membership.{now_of}
use Rattle.hk_lines.proofs.counts.counting_of.Goals as goal

pub returns-in_default-2-clause-none : goal.returns-in_default-2-clause-none
returns-in_default-2-clause-none c =
    let names : NamesThen (texts_of c.args.line.now c.args.tokens.now) (map now_of c.in-Some.names) (texts_of c.args.line.now c.in-Some.after.now) = search rules in
    let none : BeginsWithout SetThen (texts_of c.args.line.now c.in-Some.after.now) = search rules in
    λ _. no_set_counting names none

pub returns-in_default-counts_of-clause-none : goal.returns-in_default-counts_of-clause-none
returns-in_default-counts_of-clause-none c =
    let names : NamesThen (texts_of c.args.line.now c.args.tokens.now) (map now_of c.in-Some.names) (texts_of c.args.line.now c.in-Some.after.now) = search rules in
    let set : BeginsCapped SetThen (map capped_values) (texts_of c.args.line.now c.in-Some.after.now) (values_of c.in-Some-2.set) (texts_of c.args.line.now c.in-Some-2.rest.now) = search rules in
    λ _. no_counts_counting names set (c.in_default-counts_of.ensures.none refl)

pub returns-clause-some : goal.returns-clause-some
returns-clause-some c =
    let names : NamesThen (texts_of c.args.line.now c.args.tokens.now) (map now_of c.in-Some.names) (texts_of c.args.line.now c.in-Some.after.now) = search rules in
    let set : BeginsCapped SetThen (map capped_values) (texts_of c.args.line.now c.in-Some.after.now) (values_of c.in-Some-2.set) (texts_of c.args.line.now c.in-Some-2.rest.now) = search rules in
    counting_said names set c.in-Some-counts_of.ensures.some
