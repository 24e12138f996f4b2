use Rattle.std.proofs.Common.{◌∷◌, [], map, refl, ap, sym, ◌∙◌, subst}
use Rattle.std.proofs.lemmas.List.{map-append}
use Rattle.hk_text.specs.Texts.{texts_of}
use Rattle.hk_lines.specs.Phrases.{NamesThen}
use Rattle.hk_lines.proofs.Lists.{ReadsOn, on_start, on_more, on_last, on_none, on_stop, on_shorter}
use Rattle.hk_lines.proofs.Membership.{now_of}
use Rattle.hk_lines.proofs.TermLists.{names_list, exact_word, exact_names}
use Rattle.hk_lines.proofs.Words.{word_said, no_word}
use Rattle.hk_lines.proofs.phrases.names_of.Goals as goal

pub names-init : goal.names-init
names-init c = record {
  tokens = c.requires;
  reads = subst (λ names. ReadsOn NamesThen (λ name. name) (texts_of c.args.line.now c.args.tokens.now) (map now_of names) (texts_of c.args.line.now c.args.tokens.now)) (sym c.new-names.ensures) (on_start NamesThen (λ name. name) (texts_of c.args.line.now c.args.tokens.now));
}

pub word_of-requires : goal.word_of-requires
word_of-requires c = c.names.invariant.tokens

pub returns-in_default-clause-none : goal.returns-in_default-clause-none
returns-in_default-clause-none c = λ none. on_none names_list c.names.invariant.reads (no_word (c.in_default.ensures.none refl))

pub names-smaller : goal.names-smaller
names-smaller c = on_shorter names_list (exact_word (word_said c.in-Some.ensures.some c.in-Some.ensures.word)) c.in-Some-after_text.ensures.some

pub names-preserved : goal.names-preserved
names-preserved c = record {
  tokens = c.in-Some-after_text.ensures.tokens;
  reads = on_more names_list c.names.invariant.reads (exact_word (word_said c.in-Some.ensures.some c.in-Some.ensures.word)) (ap (map now_of) c.in_ok-push.ensures.ok ∙ map-append now_of c.names.names (c.in-Some.name ∷ [])) c.in-Some-after_text.ensures.some;
}

pub returns-in_default-after_text-2-clause-none : goal.returns-in_default-after_text-2-clause-none
returns-in_default-after_text-2-clause-none c = λ none. on_stop names_list c.names.invariant.reads (exact_word (word_said c.in-Some.ensures.some c.in-Some.ensures.word)) (c.in_default-after_text.ensures.none refl) (c.in_default-after_text-2.ensures.none refl)

pub returns-in-names-clause-some : goal.returns-in-names-clause-some
returns-in-names-clause-some c =
    exact_names (on_last names_list c.names.invariant.reads (exact_word (word_said c.in-Some.ensures.some c.in-Some.ensures.word)) (ap (map now_of) c.in_ok-push.ensures.ok ∙ map-append now_of c.names.names (c.in-Some.name ∷ [])) c.in-Some-after_text-2.ensures.some)
