use Rattle.std.proofs.Common.{◌≡◌, true≢false, sym, ◌∙◌, subst, rules}
use Rattle.std.specs.List.Sorted.{IsStrictlyIncreasing}
use Rattle.hk_lines.specs.Plain.{terms_of}
use Rattle.hk_draft.specs.Faults.{second_objective}
use Rattle.hk_lines.specs.Statements.{Objective}
use Rattle.hk_draft.proofs.Fitting.{place_fault, objective_named, objective_fits}
use Rattle.hk_draft.proofs.declaring.declare_objective.Goals as goal

pub returns-in_err-scope-clause-err : goal.returns-in_err-scope-clause-err
returns-in_err-scope-clause-err c =
    let fault = place_fault c.args.draft.now (Objective (terms_of c.args.terms.now)) c.in_err-scope.field-0.0 c.in_err-scope.ensures.err in
    search (rules, fault)

pub returns-then-has_objective-clause-err : goal.returns-then-has_objective-clause-err
returns-then-has_objective-clause-err c = second_objective (c.has_objective.ensures.0 c.if-has_objective.true)

pub returns-then-not-objective_fits-clause-err : goal.returns-then-not-objective_fits-clause-err
returns-then-not-objective_fits-clause-err c = (
  c.objective_fits.ensures.large c.if-not-objective_fits.true,
  objective_named c.in_ok-scope.scope c.in_ok-scope.ensures.ok (λ some. true≢false (sym (c.has_objective.ensures.1 some) ∙ c.if-has_objective.false)),
)

pub returns-then-not-is_rising-clause-err : goal.returns-then-not-is_rising-clause-err
returns-then-not-is_rising-clause-err c =
    let slice : c.as_slice.result.now ≡ c.in_ok-scope.scope = c.as_slice.ensures in (
      record {
        scope = c.in_ok-scope.scope;
        places = c.in_ok-scope.ensures.ok;
        falls = λ rising. true≢false (sym (c.is_rising.ensures.1 (subst IsStrictlyIncreasing (sym slice) rising)) ∙ c.if-not-is_rising.true);
      },
      objective_named c.in_ok-scope.scope c.in_ok-scope.ensures.ok (λ some. true≢false (sym (c.has_objective.ensures.1 some) ∙ c.if-has_objective.false)),
      objective_fits c.args.terms.now (c.objective_fits.ensures.fits c.if-not-objective_fits.false).0 (c.objective_fits.ensures.fits c.if-not-objective_fits.false).1,
    )
