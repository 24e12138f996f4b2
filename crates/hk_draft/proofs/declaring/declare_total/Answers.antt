use Rattle.std.proofs.Common.{◌≡◌, true≢false, sym, ◌∙◌, subst, rules}
use Rattle.std.proofs.Math.Facts.{to_z-of_z}
use Rattle.std.specs.List.Sorted.{IsStrictlyIncreasing}
use Rattle.hk_lines.specs.Plain.{terms_of}
use Rattle.hk_draft.specs.inside.Fits.{FitsTotal}
use Rattle.hk_lines.specs.Statements.{Total}
use Rattle.hk_draft.proofs.Fitting.{place_fault, total_named, total_fits}
use Rattle.hk_draft.proofs.declaring.declare_total.Goals as goal

pub returns-in_err-scope-clause-err : goal.returns-in_err-scope-clause-err
returns-in_err-scope-clause-err c =
    let fault = place_fault c.args.draft.now (Total (terms_of c.args.terms.now) c.args.least c.args.most) c.in_err-scope.field-0.0 c.in_err-scope.ensures.err in
    search (rules, fault)

pub returns-then-total_passes_limit-clause-err :
    goal.returns-then-total_passes_limit-clause-err
returns-then-total_passes_limit-clause-err c =
    (rw (to_z-of_z c.ranges.least, to_z-of_z c.ranges.most) at c.total_passes_limit.ensures.passes c.if-total_passes_limit.true, total_named c.in_ok-scope.scope c.in_ok-scope.ensures.ok)

pub returns-then-not-is_rising-clause-err : goal.returns-then-not-is_rising-clause-err
returns-then-not-is_rising-clause-err c =
    let slice : c.as_slice.result.now ≡ c.in_ok-scope.scope = c.as_slice.ensures in
    let fits : FitsTotal c.args.terms.now c.args.least c.args.most c.args.draft.now = rw (to_z-of_z c.ranges.least, to_z-of_z c.ranges.most) at c.total_passes_limit.ensures.fits c.if-total_passes_limit.false in (
      record {
        scope = c.in_ok-scope.scope;
        places = c.in_ok-scope.ensures.ok;
        falls = λ rising. true≢false (sym (c.is_rising.ensures.1 (subst IsStrictlyIncreasing (sym slice) rising)) ∙ c.if-not-is_rising.true);
      },
      total_named c.in_ok-scope.scope c.in_ok-scope.ensures.ok,
      total_fits fits,
    )
