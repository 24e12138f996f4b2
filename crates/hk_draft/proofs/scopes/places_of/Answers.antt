use Rattle.std.proofs.Common.{◌≡◌, ◌++◌, ◌∷◌, [], refl, sym, ◌∙◌, rules}
use Rattle.hk_draft.specs.Declares.{place_of}
use Rattle.hk_lines.proofs.Membership.{now_of}
use Rattle.hk_draft.proofs.Places.{any_reference, unplaced, places_more}
use Rattle.hk_draft.proofs.scopes.places_of.Goals as goal

pub returns-in_default-clause-err : goal.returns-in_default-clause-err
returns-in_default-clause-err c =
    (refl, unplaced now_of (place_of c.args.draft.now.names) c.args.names.now c.loop-name.name-index any_reference c.loop-name-test.true (sym c.place_of.ensures ∙ c.in_default.is))

pub loop-name-preserved : goal.loop-name-preserved
loop-name-preserved c =
    let more : c.push.new.self ≡ c.loop-name.scope ++ c.in-Some.place ∷ [] = search rules in
    places_more now_of (place_of c.args.draft.now.names) c.args.names.now c.loop-name.name-index any_reference c.loop-name-test.true c.loop-name.scope c.loop-name.invariant
    c.push.new.self c.in-Some.place (sym c.place_of.ensures ∙ c.in-Some.is) more
