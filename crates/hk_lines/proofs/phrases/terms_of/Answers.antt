use Rattle.std.proofs.Common.{◌∷◌, [], refl, ap, sym, ◌∙◌, subst}
use Rattle.std.proofs.lemmas.List.{map-append}
use Rattle.hk_text.specs.Texts.{texts_of}
use Rattle.hk_lines.specs.Plain.{terms_of, plain_term}
use Rattle.hk_lines.specs.Phrases.{TermsThen}
use Rattle.hk_lines.specs.Shapes.{capped_term}
use Rattle.hk_lines.proofs.Lists.{ReadsOn, on_start, on_more, on_last, on_none, on_stop, on_shorter}
use Rattle.hk_lines.proofs.TermLists.{terms_list}
use Rattle.hk_lines.proofs.phrases.terms_of.Goals as goal

pub terms-init : goal.terms-init
terms-init c = record {
  tokens = c.requires;
  reads = subst (λ terms. ReadsOn TermsThen capped_term (texts_of c.args.line.now c.args.tokens.now) (terms_of terms) (texts_of c.args.line.now c.args.tokens.now)) (sym c.new-terms.ensures) (on_start TermsThen capped_term (texts_of c.args.line.now c.args.tokens.now));
}

pub term_of-requires : goal.term_of-requires
term_of-requires c = c.terms.invariant.tokens

pub returns-in_default-clause-none : goal.returns-in_default-clause-none
returns-in_default-clause-none c = λ none. on_none terms_list c.terms.invariant.reads (c.in_default.ensures.none refl)

pub terms-smaller : goal.terms-smaller
terms-smaller c = on_shorter terms_list c.in-Some.ensures.some c.in-Some-after_text.ensures.some

pub terms-preserved : goal.terms-preserved
terms-preserved c = record {
  tokens = c.in-Some-after_text.ensures.tokens;
  reads = on_more terms_list c.terms.invariant.reads c.in-Some.ensures.some (ap terms_of c.in_ok-push.ensures.ok ∙ map-append plain_term c.terms.terms (c.in-Some.term ∷ [])) c.in-Some-after_text.ensures.some;
}

pub returns-in_default-after_text-2-clause-none : goal.returns-in_default-after_text-2-clause-none
returns-in_default-after_text-2-clause-none c = λ none. on_stop terms_list c.terms.invariant.reads c.in-Some.ensures.some (c.in_default-after_text.ensures.none refl) (c.in_default-after_text-2.ensures.none refl)

pub returns-in-terms-clause-some : goal.returns-in-terms-clause-some
returns-in-terms-clause-some c =
    on_last terms_list c.terms.invariant.reads c.in-Some.ensures.some (ap terms_of c.in_ok-push.ensures.ok ∙ map-append plain_term c.terms.terms (c.in-Some.term ∷ [])) c.in-Some-after_text-2.ensures.some
