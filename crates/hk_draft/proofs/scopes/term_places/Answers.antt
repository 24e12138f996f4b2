use Rattle.std.proofs.Common.{◌≡◌, ◌++◌, ◌∷◌, [], None, Any, map, refl, ap, sym, ◌∙◌, subst, rules}
use Rattle.hk_draft.specs.Declares.{place_of}
use Rattle.hk_draft.proofs.Places.{any_term, name_of, names_of_terms, unplaced, places_more, places_all}
use Rattle.hk_draft.proofs.scopes.term_places.Goals as goal

pub returns-in_default-clause-err : goal.returns-in_default-clause-err
returns-in_default-clause-err c =
    let place = place_of c.args.draft.now.names in
    (refl, subst (Any (λ n. place n ≡ None)) (names_of_terms c.args.terms.now) (unplaced name_of place c.args.terms.now c.loop-term.term-index any_term c.loop-term-test.true (sym c.place_of.ensures ∙ c.in_default.is)))

pub loop-term-preserved : goal.loop-term-preserved
loop-term-preserved c =
    let more : c.push.new.self ≡ c.loop-term.scope ++ c.in-Some.place ∷ [] = search rules in
    places_more name_of (place_of c.args.draft.now.names) c.args.terms.now c.loop-term.term-index any_term c.loop-term-test.true c.loop-term.scope c.loop-term.invariant
    c.push.new.self c.in-Some.place (sym c.place_of.ensures ∙ c.in-Some.is) more

pub returns : goal.returns
returns c = record {
  ok =
      let place = place_of c.args.draft.now.names in
      ap (map place) (sym (names_of_terms c.args.terms.now)) ∙ places_all name_of place c.args.terms.now c.loop-term.term-index c.loop-term.scope c.loop-term-test.false c.loop-term.invariant;
  err = tt;
}
