use Rattle.std.proofs.Common.{refl, sym, subst}
use Rattle.hk_text.specs.Texts.{texts_of}
use Rattle.hk_lines.specs.Posts.{NumbersThen}
use Rattle.hk_lines.specs.Shapes.{capped_signed}
use Rattle.hk_lines.proofs.Lists.{ReadsOn, on_start, on_more, on_last, on_none, on_stop, on_shorter}
use Rattle.hk_lines.proofs.PostPhrases.{numbers_list, signed_pushed}
use Rattle.hk_lines.proofs.posts.numbers_of.Goals as goal

pub numbers-init : goal.numbers-init
numbers-init c = record {
  tokens = c.requires;
  reads = subst (λ numbers. ReadsOn NumbersThen capped_signed (texts_of c.args.line.now c.args.tokens.now) numbers (texts_of c.args.line.now c.args.tokens.now)) (sym c.new-numbers.ensures) (on_start NumbersThen capped_signed (texts_of c.args.line.now c.args.tokens.now));
}

pub signed_of-requires : goal.signed_of-requires
signed_of-requires c = c.numbers.invariant.tokens

pub returns-in_default-clause-none : goal.returns-in_default-clause-none
returns-in_default-clause-none c = λ none. on_none numbers_list c.numbers.invariant.reads (c.in_default.ensures.none refl)

pub numbers-smaller : goal.numbers-smaller
numbers-smaller c = on_shorter numbers_list c.in-Some.ensures.some c.in-Some-after_text.ensures.some

pub numbers-preserved : goal.numbers-preserved
numbers-preserved c = record {
  tokens = c.in-Some-after_text.ensures.tokens;
  reads = on_more numbers_list c.numbers.invariant.reads c.in-Some.ensures.some (signed_pushed c.numbers.numbers c.push.new.self c.in-Some.ensures.some c.in_ok-push.ensures.ok) c.in-Some-after_text.ensures.some;
}

pub returns-in_default-after_text-2-clause-none : goal.returns-in_default-after_text-2-clause-none
returns-in_default-after_text-2-clause-none c = λ none. on_stop numbers_list c.numbers.invariant.reads c.in-Some.ensures.some (c.in_default-after_text.ensures.none refl) (c.in_default-after_text-2.ensures.none refl)

pub returns-in-numbers-clause-some : goal.returns-in-numbers-clause-some
returns-in-numbers-clause-some c =
    on_last numbers_list c.numbers.invariant.reads c.in-Some.ensures.some (signed_pushed c.numbers.numbers c.push.new.self c.in-Some.ensures.some c.in_ok-push.ensures.ok) c.in-Some-after_text-2.ensures.some
