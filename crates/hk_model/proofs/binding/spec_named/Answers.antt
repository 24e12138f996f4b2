use Rattle.std.proofs.Common.{◌≡◌, List, true, false, sym, ap, ◌∙◌, bytes_eq}
use Rattle.std.proofs.lemmas.List.{at_drop_all}
use Rattle.hk_spec.specs.Specifications.{Specification}
use Rattle.hk_model.specs.Postings.{spec_of}
use Rattle.hk_model.proofs.PostFits.{found_here, found_later}
use Rattle.hk_model.proofs.binding.spec_named.Goals as goal

pub returns-then-eq-clause-some : goal.returns-then-eq-clause-some
returns-then-eq-clause-some c =
    let named : c.as_slice.result.now ≡ c.spec-item.result.name = c.as_slice.ensures ∙ ap (λ (s : Specification). s.name) c.spec.view_is in
    let same : bytes_eq c.args.name.now c.spec-item.result.name ≡ true = ap (bytes_eq c.args.name.now) (sym named) ∙ sym c.eq.ensures ∙ c.if-eq.true in
    c.loop-spec.invariant ∙ found_here (λ (s : Specification). bytes_eq c.args.name.now s.name) c.args.specs.now c.loop-spec.spec-index c.spec-item.result c.loop-spec-test.true c.spec-item.is same

pub loop-spec-preserved : goal.loop-spec-preserved
loop-spec-preserved c =
    let named : c.as_slice.result.now ≡ c.spec-item.result.name = c.as_slice.ensures ∙ ap (λ (s : Specification). s.name) c.spec.view_is in
    let other : bytes_eq c.args.name.now c.spec-item.result.name ≡ false = ap (bytes_eq c.args.name.now) (sym named) ∙ sym c.eq.ensures ∙ c.if-eq.false in
    c.loop-spec.invariant ∙ found_later (λ (s : Specification). bytes_eq c.args.name.now s.name) c.args.specs.now c.loop-spec.spec-index c.spec-item.result c.loop-spec-test.true c.spec-item.is other

pub returns-clause-none : goal.returns-clause-none
returns-clause-none c = λ _. c.loop-spec.invariant ∙ at_drop_all (λ (specs : List Specification). spec_of specs c.args.name.now) c.args.specs.now c.loop-spec.spec-index c.loop-spec-test.false
