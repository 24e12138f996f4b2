use Rattle.std.proofs.Common.{◌≡◌, ◌∷◌, List, Bor, map, not, ap, ◌∙◌, codes, rules}
use Rattle.hk_text.specs.declared.tokenizer.Token.{Token}
use Rattle.hk_text.specs.Texts.{texts_of}
use Rattle.hk_lines.specs.Plain.{values_of}
use Rattle.hk_lines.specs.Phrases.{SetThen}
use Rattle.hk_lines.specs.Posts.{NumbersThen}
use Rattle.hk_lines.specs.Shapes.{capped_signed, capped_values}
use Rattle.hk_lines.specs.inside.Capped.{BeginsCapped}
use Rattle.hk_lines.proofs.PostPhrases.{some_since, number_arg_said, numbers_arg_said, set_arg_said}
use Rattle.hk_lines.proofs.posts.arg_of.Goals as goal

pub returns-in-Some-clause-some : goal.returns-in-Some-clause-some
returns-in-Some-clause-some c = number_arg_said c.in-Some.ensures.some

pub returns-in-Some-after_text-clause-some : goal.returns-in-Some-after_text-clause-some
returns-in-Some-after_text-clause-some c =
    let numbers : BeginsCapped NumbersThen (map capped_signed) (texts_of c.args.line.now c.in-Some-after_text.open.now) c.in-Some-2.numbers (texts_of c.args.line.now c.in-Some-2.rest.now) = search rules in
    numbers_arg_said c.in-Some-after_text.ensures.some numbers

pub returns-clause-some : goal.returns-clause-some
returns-clause-some c =
    let set : BeginsCapped SetThen (map capped_values) (texts_of c.args.line.now c.args.tokens.now) (values_of c.in-Some-3.set) (texts_of c.args.line.now c.in-Some-3.rest.now) = search rules in
    let opens = some_since (λ (rest : Bor (List Token)). texts_of c.args.line.now c.args.tokens.now ≡ codes "{" ∷ texts_of c.args.line.now rest.now) c.after_text-2.result c.after_text-2.ensures.some (c.is_none.ensures ∙ ap not c.if-is_none.false) in
    set_arg_said opens.1 set
