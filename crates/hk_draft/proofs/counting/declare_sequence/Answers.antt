use Rattle.std.proofs.Common.{◌≡◌, map, true≢false, sym, ◌∙◌, subst, rules}
use Rattle.std.specs.List.Sorted.{IsStrictlyIncreasing}
use Rattle.hk_lines.specs.Plain.{plain_counting}
use Rattle.hk_lines.specs.Statements.{Sequence}
use Rattle.hk_draft.specs.Declares.{ArePlacesOf}
use Rattle.hk_draft.specs.Faults.{IsPlaceFault, odd_window}
use Rattle.hk_draft.specs.inside.Fits.{FitsCounting}
use Rattle.hk_draft.proofs.CountFitting.{sequence_named, sequence_fits, sequence_large}
use Rattle.hk_draft.proofs.CountTests.{set_fits}
use Rattle.hk_draft.proofs.Fitting.{place_fault}
use Rattle.hk_draft.proofs.SmallSets.{AreSmallValues}
use Rattle.hk_draft.proofs.counting.declare_sequence.Goals as goal

pub returns-in_err-scope-clause-err : goal.returns-in_err-scope-clause-err
returns-in_err-scope-clause-err c =
    let none : IsPlaceFault c.args.draft.now.names (map (λ name. name.now) c.args.counting.now.names) c.in_err-scope.field-0.0 =
    subst (λ names. IsPlaceFault c.args.draft.now.names (map (λ name. name.now) names) c.in_err-scope.field-0.0) c.as_slice.ensures c.in_err-scope.ensures.err in
    let fault = place_fault c.args.draft.now (Sequence c.args.window (plain_counting c.args.counting.now)) c.in_err-scope.field-0.0 none in
    search (rules, fault)

pub returns-then-not-is_window-clause-err : goal.returns-then-not-is_window-clause-err
returns-then-not-is_window-clause-err c =
    let places : ArePlacesOf c.args.draft.now.names (map (λ name. name.now) c.args.counting.now.names) c.in_ok-scope.scope = subst (λ names. ArePlacesOf c.args.draft.now.names (map (λ name. name.now) names) c.in_ok-scope.scope) c.as_slice.ensures c.in_ok-scope.ensures.ok in
    (odd_window (λ is. true≢false (sym (c.is_window.ensures.1 is) ∙ c.if-not-is_window.true)), sequence_named c.in_ok-scope.scope places)

pub returns-then-not-counting_fits-clause-err : goal.returns-then-not-counting_fits-clause-err
returns-then-not-counting_fits-clause-err c =
    let places : ArePlacesOf c.args.draft.now.names (map (λ name. name.now) c.args.counting.now.names) c.in_ok-scope.scope = subst (λ names. ArePlacesOf c.args.draft.now.names (map (λ name. name.now) names) c.in_ok-scope.scope) c.as_slice.ensures c.in_ok-scope.ensures.ok in
    (sequence_large (c.counting_fits.ensures.large c.if-not-counting_fits.true), sequence_named c.in_ok-scope.scope places)

pub returns-then-not-is_rising-clause-err : goal.returns-then-not-is_rising-clause-err
returns-then-not-is_rising-clause-err c =
    let places : ArePlacesOf c.args.draft.now.names (map (λ name. name.now) c.args.counting.now.names) c.in_ok-scope.scope = subst (λ names. ArePlacesOf c.args.draft.now.names (map (λ name. name.now) names) c.in_ok-scope.scope) c.as_slice.ensures c.in_ok-scope.ensures.ok in
    let slice : c.as_slice-2.result.now ≡ c.in_ok-scope.scope = c.as_slice-2.ensures in
    let fits : FitsCounting (plain_counting c.args.counting.now) c.args.draft.now = c.counting_fits.ensures.fits c.if-not-counting_fits.false in (
      record {
        scope = c.in_ok-scope.scope;
        places = places;
        falls = λ rising. true≢false (sym (c.is_rising.ensures.1 (subst IsStrictlyIncreasing (sym slice) rising)) ∙ c.if-not-is_rising.true);
      },
      sequence_named c.in_ok-scope.scope places,
      sequence_fits (c.is_window.ensures.0 c.if-not-is_window.false) fits,
    )

pub set_of_values-requires-clause-ordered : goal.set_of_values-requires-clause-ordered
set_of_values-requires-clause-ordered c =
    let fits : FitsCounting (plain_counting c.args.counting.now) c.args.draft.now = c.counting_fits.ensures.fits c.if-not-counting_fits.false in
    let set : AreSmallValues c.as_slice-3.result.now = subst AreSmallValues (sym c.as_slice-3.ensures) (set_fits c.args.counting.now c.args.draft.now fits) in
    λ k d within. (set k d within).0

pub set_of_values-requires-clause-within : goal.set_of_values-requires-clause-within
set_of_values-requires-clause-within c =
    let fits : FitsCounting (plain_counting c.args.counting.now) c.args.draft.now = c.counting_fits.ensures.fits c.if-not-counting_fits.false in
    let set : AreSmallValues c.as_slice-3.result.now = subst AreSmallValues (sym c.as_slice-3.ensures) (set_fits c.args.counting.now c.args.draft.now fits) in
    λ k d within. (set k d within).1
