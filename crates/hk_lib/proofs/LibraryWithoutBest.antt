-- The tests of the library's constraints do not name the bound on the cost.
use Rattle.std.proofs.Common.{ℕ, suc, zero, ◌-◌, ◌<◌, ◌≤◌, false, arith, refl}
use Rattle.hk_spec.proofs.NodeScopes.{good_cond, fits-number_param}
use Rattle.hk_spec.specs.Library.{alldifferent_spec, among_spec, sequence_spec, sum_spec}
use Rattle.hk_spec.specs.Scopes.{Scope}
use Rattle.hk_spec.specs.Specifications.{Specification, IsWithoutBest, test_scope}
use Rattle.hk_lib.proofs.LibraryRules.{counted_fits, differing_fits, total_fits, weighted_fits}
use Rattle.hk_lib.proofs.WindowRules.{lag_is_interval, small_literal, window_good}

-- what a test without the bound may name
abbrev without : Specification → Scope
without s = record (test_scope s) { best = false }

pub alldifferent_without : IsWithoutBest alldifferent_spec
alldifferent_without = good_cond (differing_fits (without alldifferent_spec) refl refl refl refl) refl

pub among_without : IsWithoutBest among_spec
among_without = good_cond (total_fits (without among_spec) refl refl (counted_fits (without among_spec) refl) (fits-number_param (without among_spec) 0 refl) (fits-number_param (without among_spec) 1 refl)) refl

pub sum_without : IsWithoutBest sum_spec
sum_without = good_cond (total_fits (without sum_spec) refl refl (weighted_fits (without sum_spec) refl) (fits-number_param (without sum_spec) 1 refl) (fits-number_param (without sum_spec) 2 refl)) refl

pub sequence_without : (window : ℕ) → 1 ≤ window → window ≤ 32 → IsWithoutBest (sequence_spec window)
sequence_without zero some short = absurd (omega arith)
sequence_without (suc last) some short =
    let last_is : suc last - 1 < suc last = omega arith in
    let small : suc last - 1 ≤ 32 = omega arith in
    good_cond (window_good (without (sequence_spec (suc last))) (suc last - 1) refl refl refl refl (lag_is_interval 0 (suc last) (suc last - 1) last_is) (small_literal (suc last - 1) small)) refl
