-- The specification of `sequence` keeps the rules of specifications, for each window from 1 to 32.
use Rattle.std.proofs.Common.{◌≡◌, ℕ, zero, suc, pos, ◌+◌, ◌-◌, ◌<◌, ◌≤◌, true, false, Bool, not, ◌&&◌, ◌||◌, slice_get, List, [], ◌++◌, length, map, codes, bytes_eq, arith, le-leb, refl, sym, subst, ap, ap₂}
use Rattle.std.specs.List.{list_all, list_any}
use Rattle.hk_kinds.specs.Shapes.{HasShape, no_kinds, one_more}
use Rattle.hk_spec.proofs.NodeScopes.{CondFits, good_num, good_cond, fits-literal, fits-index, fits-number_param, fits-low, fits-high, fits-plus, fits-minus, fits-at_most, fits-below, fits-both, fits-either}
use Rattle.hk_spec.specs.Library.{sequence_spec, lag_name, lags_from, shifts_from, window_test}
use Rattle.hk_spec.specs.Names.{is_free_name, are_distinct}
use Rattle.hk_spec.specs.Scopes.{Scope, is_interval_kind, is_num_param, is_set_param, is_within_limit}
use Rattle.hk_spec.specs.Specifications.{IsSpecification, kinds_of_properties, initial_values, test_scope, down_scope, are_steps}
use Rattle.hk_spec.specs.declared.expressions.Side.TheVariants.{Down}
use Rattle.hk_spec.specs.declared.parts.PropDecl.{PropDecl}
use Rattle.hk_lib.proofs.LagNames.{lag_name_free, lag_names_differ}
use Rattle.hk_lib.proofs.LibraryRules.{both_true, interval_begins, counted_fits, step_by_good}

-- the names of so many properties from a place on, with no others after them
abbrev lag_names : ℕ → ℕ → List (List ℕ)
lag_names place count = map (λ (p : PropDecl). p.name) (lags_from place count) ++ []

-- each is free
names_free : (place count : ℕ) → place + count ≤ 100 → list_all is_free_name (lag_names place count) ≡ true
names_free place zero few = refl
names_free place (suc count) few = both_true (lag_name_free place (omega arith)) (names_free (place + 1) count (omega arith))

-- a word that is none of the names
word_apart : (word : List ℕ) → ((place : ℕ) → bytes_eq word (lag_name place) ≡ false) → (place count : ℕ) → list_any (bytes_eq word) (lag_names place count) ≡ false
word_apart word apart place zero = refl
word_apart word apart place (suc count) = subst (λ b. b || list_any (bytes_eq word) (lag_names (place + 1) count) ≡ false) (sym (apart place)) (word_apart word apart (place + 1) count)

-- a name of an earlier place
earlier_apart : (before place count : ℕ) → before < place → list_any (bytes_eq (lag_name before)) (lag_names place count) ≡ false
earlier_apart before place zero less = refl
earlier_apart before place (suc count) less = subst (λ b. b || list_any (bytes_eq (lag_name before)) (lag_names (place + 1) count) ≡ false) (sym (lag_names_differ before place less)) (earlier_apart before (place + 1) count (omega arith))

apart_and : {a b : Bool} → a ≡ false → b ≡ true → not a && b ≡ true
apart_and h k = ap₂ (λ x y. not x && y) h k

-- no two are equal
names_distinct : (place count : ℕ) → are_distinct (lag_names place count) ≡ true
names_distinct place zero = refl
names_distinct place (suc count) = apart_and (earlier_apart place (place + 1) count (omega arith)) (names_distinct (place + 1) count)

count_of_lags : (place count : ℕ) → length (lags_from place count) ≡ count
count_of_lags place zero = refl
count_of_lags place (suc count) = ap suc (count_of_lags (place + 1) count)

-- each property begins as an interval
lags_begin : (place count : ℕ) → HasShape (kinds_of_properties (lags_from place count)) (initial_values (lags_from place count))
lags_begin place zero = no_kinds
lags_begin place (suc count) = one_more interval_begins (lags_begin (place + 1) count)

pub lag_is_interval : (place count k : ℕ) → k < count → is_interval_kind (slice_get (kinds_of_properties (lags_from place count)) k) ≡ true
lag_is_interval place zero k within = absurd (omega arith)
lag_is_interval place (suc count) zero within = refl
lag_is_interval place (suc count) (suc k) within = lag_is_interval (place + 1) count k (omega arith)

-- the shifts are good steps
shifts_good : (scope : Scope) (place count at : ℕ) → ((k : ℕ) → k < place + count → is_interval_kind (slice_get scope.down k) ≡ true) → are_steps scope (kinds_of_properties (lags_from at count)) (shifts_from place count) ≡ true
shifts_good scope place zero at kinds = refl
shifts_good scope place (suc count) at kinds = both_true
    (both_true (good_num (fits-low scope Down place (kinds place (omega arith))) refl) (good_num (fits-high scope Down place (kinds place (omega arith))) refl))
    (shifts_good scope (place + 1) count (at + 1) (λ k within. kinds k (omega arith)))

-- the test is a good one
pub window_good : (scope : Scope) (last : ℕ) → is_set_param (slice_get scope.params 2) ≡ true → is_num_param (slice_get scope.params 0) ≡ true → is_num_param (slice_get scope.params 1) ≡ true
    → is_interval_kind (slice_get scope.down 0) ≡ true → is_interval_kind (slice_get scope.down last) ≡ true → is_within_limit (pos last) ≡ true → CondFits scope 8 (window_test last)
window_good scope last set least most first lag small = fits-either scope
    (fits-below scope (fits-index scope) (fits-literal scope (pos last) small))
    (fits-both scope
    (fits-at_most scope (fits-minus scope (fits-plus scope (fits-low scope Down 0 first) (counted_fits scope set)) (fits-high scope Down last lag)) (fits-number_param scope 1 most))
    (fits-at_most scope (fits-number_param scope 0 least) (fits-minus scope (fits-plus scope (fits-high scope Down 0 first) (counted_fits scope set)) (fits-low scope Down last lag))))

-- one less than a window of at least 1
one_less : (last : ℕ) → suc last - 1 ≡ last
one_less last = omega arith

pub small_literal : (n : ℕ) → n ≤ 32 → is_within_limit (pos n) ≡ true
small_literal n small = both_true refl (le-leb n 1000000000000 (omega arith))

pub sequence_rules : (window : ℕ) → 1 ≤ window → window ≤ 32 → IsSpecification (sequence_spec window)
sequence_rules zero some few = absurd (omega arith)
sequence_rules (suc last) some few =
    let last_is : suc last - 1 < suc last = omega arith in
    let small : suc last - 1 ≤ 32 = omega arith in
    record {
      named = refl;
      free_names = names_free 0 (suc last) (omega arith);
      distinct_names = apart_and (word_apart (codes "least") (λ place. refl) 0 (suc last)) (apart_and (word_apart (codes "most") (λ place. refl) 0 (suc last)) (apart_and (word_apart (codes "vals") (λ place. refl) 0 (suc last)) (names_distinct 0 (suc last))));
      few_params = omega arith;
      few_down = subst (λ count. count ≤ 32) (sym (count_of_lags 0 (suc last))) few;
      few_up = omega arith;
      initial_down = lags_begin 0 (suc last);
      initial_up = no_kinds;
      good_test = good_cond (window_good (test_scope (sequence_spec (suc last))) (suc last - 1) refl refl refl refl (lag_is_interval 0 (suc last) (suc last - 1) last_is) (small_literal (suc last - 1) small)) refl;
      good_down_steps = both_true
          (step_by_good (down_scope (sequence_spec (suc last))) Down refl (counted_fits (down_scope (sequence_spec (suc last))) refl) refl)
          (subst (λ count. are_steps (down_scope (sequence_spec (suc last))) (kinds_of_properties (lags_from 1 last)) (shifts_from 0 count) ≡ true) (sym (one_less last))
          (shifts_good (down_scope (sequence_spec (suc last))) 0 last 1 (λ k within. lag_is_interval 0 (suc last) k (omega arith))));
      good_up_steps = refl;
    }
