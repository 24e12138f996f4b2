use Rattle.std.proofs.Common.{Result, Ok, Err, IfErr, List, ℕ, ◌≡◌, ◌<◌, ◌≤◌, length, All, ◌∙◌, ap, subst, sym, le_trans}
use Rattle.hk_group.specs.Problems.{IsConstraint, IsScope}
use Rattle.hk_group.specs.Solutions.{IsUsers, is_users, scope_values}
use Rattle.hk_group.proofs.Distinct.{scope_values-small}
use Rattle.hk_group.proofs.SumSizes.{scope_short}
use Rattle.hk_group.proofs.judging.holds.Goals as goal

-- a scope's variables are no more than there may be
few : (variables : ℕ) (scope same : List ℕ) → IsScope variables scope → variables ≤ 256 → same ≡ scope → length same ≤ 256
few variables scope same over most is = subst (λ (all : List ℕ). length all ≤ 256) (sym is) (le_trans (scope_short variables scope over) most)

pub count_in-count-requires-clause-few : goal.count_in-count-requires-clause-few
count_in-count-requires-clause-few c =
    let valid = subst (IsConstraint (length c.args.values.now)) c.in-Among.is c.requires.scope in
    few (length c.args.values.now) c.in-Among.scope c.as_slice-in-Among.result.now valid.over c.requires.few c.as_slice-in-Among.ensures

pub each_window-requires-clause-few : goal.each_window-requires-clause-few
each_window-requires-clause-few c =
    let valid = subst (IsConstraint (length c.args.values.now)) c.in-Sequence.is c.requires.scope in
    few (length c.args.values.now) c.in-Sequence.scope c.as_slice-in-Sequence.result.now valid.counts.over c.requires.few c.as_slice-in-Sequence.ensures

pub each_occurs-requires-clause-few : goal.each_occurs-requires-clause-few
each_occurs-requires-clause-few c =
    let valid = subst (IsConstraint (length c.args.values.now)) c.in-Gcc.is c.requires.scope in
    few (length c.args.values.now) c.in-Gcc.scope c.as_slice-in-Gcc-2.result.now valid.over c.requires.few c.as_slice-in-Gcc-2.ensures

pub accepts-requires-clause-values : goal.accepts-requires-clause-values
accepts-requires-clause-values c =
    let valid = subst (IsConstraint (length c.args.values.now)) c.in-User.is c.requires.scope in
    let small = scope_values-small c.in-User.scope c.args.values.now valid.0.declared c.requires.small in
    let same = ap (λ (scope : List ℕ). scope_values scope c.args.values.now) c.as_slice-in-User.ensures in
    subst (All (λ value. value < 128)) (sym (c.as_slice-in-User-2.ensures ∙ c.in_ok-own-in-User.ensures ∙ same)) small

-- a refusal says what is so anyway
refused_anyway : {A E : Type 0} {X : Type 0} (result : Result A E) → X → IfErr result (λ refused. X)
refused_anyway (Ok made) x = tt
refused_anyway (Err refused) x = x

pub returns-in_err-own-in-User-clause-err : goal.returns-in_err-own-in-User-clause-err
returns-in_err-own-in-User-clause-err c = refused_anyway c.from_residual.result (subst IsUsers (sym c.in-User.is) is_users)

pub returns-in_ok-own-in-User-clause-err : goal.returns-in_ok-own-in-User-clause-err
returns-in_ok-own-in-User-clause-err c = refused_anyway c.accepts.result (subst IsUsers (sym c.in-User.is) is_users)
