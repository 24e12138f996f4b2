use Rattle.std.proofs.Common.{◌≡◌, map, true≢false, sym, ◌∙◌, subst, rules}
use Rattle.std.specs.List.Sorted.{IsStrictlyIncreasing}
use Rattle.hk_lines.specs.Plain.{rows_of}
use Rattle.hk_lines.specs.Statements.{Gcc}
use Rattle.hk_draft.specs.Faults.{listed_twice}
use Rattle.hk_draft.specs.inside.Fits.{FitsRows}
use Rattle.hk_draft.proofs.CountFitting.{gcc_named, gcc_fits, gcc_large}
use Rattle.hk_draft.proofs.Fitting.{place_fault}
use Rattle.hk_draft.proofs.counting.declare_gcc.Goals as goal

pub returns-in_err-scope-clause-err : goal.returns-in_err-scope-clause-err
returns-in_err-scope-clause-err c =
    let fault = place_fault c.args.draft.now (Gcc (map (λ name. name.now) c.args.names.now) (rows_of c.args.rows.now)) c.in_err-scope.field-0.0 c.in_err-scope.ensures.err in
    search (rules, fault)

pub returns-then-not-once-clause-err : goal.returns-then-not-once-clause-err
returns-then-not-once-clause-err c = listed_twice (c.in_ok-once.ensures.twice c.if-not-once.true)

pub returns-then-not-rows_fit-clause-err : goal.returns-then-not-rows_fit-clause-err
returns-then-not-rows_fit-clause-err c =
    (gcc_large (c.rows_fit.ensures.large c.if-not-rows_fit.true), gcc_named c.in_ok-scope.scope c.in_ok-scope.ensures.ok (c.in_ok-once.ensures.once c.if-not-once.false))

pub returns-then-not-is_rising-clause-err : goal.returns-then-not-is_rising-clause-err
returns-then-not-is_rising-clause-err c =
    let slice : c.as_slice.result.now ≡ c.in_ok-scope.scope = c.as_slice.ensures in
    let fits : FitsRows (rows_of c.args.rows.now) c.args.draft.now = c.rows_fit.ensures.fits c.if-not-rows_fit.false in (
      record {
        scope = c.in_ok-scope.scope;
        places = c.in_ok-scope.ensures.ok;
        falls = λ rising. true≢false (sym (c.is_rising.ensures.1 (subst IsStrictlyIncreasing (sym slice) rising)) ∙ c.if-not-is_rising.true);
      },
      gcc_named c.in_ok-scope.scope c.in_ok-scope.ensures.ok (c.in_ok-once.ensures.once c.if-not-once.false),
      gcc_fits fits,
    )
