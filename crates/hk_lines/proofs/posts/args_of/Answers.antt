use Rattle.std.proofs.Common.{◌∷◌, [], refl, ap, sym, ◌∙◌, subst, rules}
use Rattle.std.proofs.lemmas.List.{map-append}
use Rattle.hk_text.specs.Texts.{texts_of}
use Rattle.hk_lines.specs.Posts.{ArgThen, ArgsThen}
use Rattle.hk_lines.specs.PostShapes.{plain_arg, args_of, capped_arg}
use Rattle.hk_lines.specs.inside.Capped.{BeginsCapped, BeginsWithout}
use Rattle.hk_lines.proofs.Lists.{ReadsOn, on_start, on_more, on_last, on_none, on_stop, on_shorter}
use Rattle.hk_lines.proofs.PostPhrases.{args_list}
use Rattle.hk_lines.proofs.posts.args_of.Goals as goal

pub found-init : goal.found-init
found-init c = record {
  tokens = c.requires;
  reads = subst (λ args. ReadsOn ArgsThen capped_arg (texts_of c.args.line.now c.args.tokens.now) (args_of args) (texts_of c.args.line.now c.args.tokens.now)) (sym c.new-found.ensures) (on_start ArgsThen capped_arg (texts_of c.args.line.now c.args.tokens.now));
}

pub arg_of-requires : goal.arg_of-requires
arg_of-requires c = c.found.invariant.tokens

pub returns-in_default-clause-none : goal.returns-in_default-clause-none
returns-in_default-clause-none c =
    let none : BeginsWithout ArgThen (texts_of c.args.line.now c.found.rest.now) = search rules in
    λ _. on_none args_list c.found.invariant.reads none

pub found-smaller : goal.found-smaller
found-smaller c =
    let arg : BeginsCapped ArgThen capped_arg (texts_of c.args.line.now c.found.rest.now) (plain_arg c.in-Some.arg) (texts_of c.args.line.now c.in-Some.after.now) = search rules in
    on_shorter args_list arg c.in-Some-after_text.ensures.some

pub found-preserved : goal.found-preserved
found-preserved c =
    let arg : BeginsCapped ArgThen capped_arg (texts_of c.args.line.now c.found.rest.now) (plain_arg c.in-Some.arg) (texts_of c.args.line.now c.in-Some.after.now) = search rules in
    record {
      tokens = c.in-Some-after_text.ensures.tokens;
      reads = on_more args_list c.found.invariant.reads arg (ap args_of c.in_ok-push.ensures.ok ∙ map-append plain_arg c.found.found (c.in-Some.arg ∷ [])) c.in-Some-after_text.ensures.some;
    }

pub returns-in_default-after_text-2-clause-none : goal.returns-in_default-after_text-2-clause-none
returns-in_default-after_text-2-clause-none c =
    let arg : BeginsCapped ArgThen capped_arg (texts_of c.args.line.now c.found.rest.now) (plain_arg c.in-Some.arg) (texts_of c.args.line.now c.in-Some.after.now) = search rules in
    λ _. on_stop args_list c.found.invariant.reads arg (c.in_default-after_text.ensures.none refl) (c.in_default-after_text-2.ensures.none refl)

pub returns-in-found-clause-some : goal.returns-in-found-clause-some
returns-in-found-clause-some c =
    let arg : BeginsCapped ArgThen capped_arg (texts_of c.args.line.now c.found.rest.now) (plain_arg c.in-Some.arg) (texts_of c.args.line.now c.in-Some.after.now) = search rules in
    on_last args_list c.found.invariant.reads arg (ap args_of c.in_ok-push.ensures.ok ∙ map-append plain_arg c.found.found (c.in-Some.arg ∷ [])) c.in-Some-after_text-2.ensures.some
