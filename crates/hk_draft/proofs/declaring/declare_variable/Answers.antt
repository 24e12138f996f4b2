use Rattle.std.proofs.Common.{◌≡◌, ◌<◌, ◌≤◌, arith, false, true≢false, Option, None, Some, is_some, refl, sym, ◌∙◌, ap, rules}
use Rattle.std.proofs.lemmas.List.{length-map}
use Rattle.std.proofs.lemmas.List.Elements.{All-map}
use Rattle.hk_group.specs.Limits.{value_count}
use Rattle.hk_lines.specs.Plain.{plain_values}
use Rattle.hk_draft.specs.Faults.{declared_twice}
use Rattle.hk_draft.specs.Declares.{place_of}
use Rattle.hk_draft.proofs.declaring.declare_variable.Goals as goal

-- an option that is not some is none
none_from_test : {A : Type 0} (o : Option A) → is_some o ≡ false → o ≡ None
none_from_test None is = refl
none_from_test (Some x) is = absurd (true≢false is)

pub returns-then-is_some-clause-err : goal.returns-then-is_some-clause-err
returns-then-is_some-clause-err c = declared_twice (sym (ap is_some c.place_of.ensures) ∙ sym c.is_some.ensures ∙ c.if-is_some.true)

pub returns-clause-ok : goal.returns-clause-ok
returns-clause-ok c =
    let new : place_of c.args.draft.now.names c.args.name.now ≡ None = sym c.place_of.ensures ∙ none_from_test c.place_of.result (sym c.is_some.ensures ∙ c.if-is_some.false) in
    let fits = c.variable_passes_limit.ensures.fits c.if-variable_passes_limit.false in
    record {
      short = fits.short;
      new = new;
      some = omega (arith, fits.some, length-map c.args.set.now plain_values);
      ordered = All-map (λ values. values.first ≤ values.last) plain_values c.args.set.now fits.ordered;
      within = All-map (λ values. values.last < value_count) plain_values c.args.set.now fits.within;
      room = fits.room;
      domain = c.set_of_values.result;
      is_set = c.set_of_values.ensures;
      added = search (rules);
    }
