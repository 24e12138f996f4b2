-- The library's specifications keep the rules of specifications, part by part.
use Rattle.std.proofs.Common.{◌≡◌, ℕ, pos, ◌+◌, max, true, Bool, ◌&&◌, nat_le, slice_get, arith, refl, ap₂}
use Rattle.hk_kinds.specs.Shapes.{IsOfKind, no_kinds, one_more, is_min, is_interval, is_some, is_all}
use Rattle.hk_kinds.specs.declared.kinds.Kind.TheVariants.{Min, Interval, SomeBits, AllBits}
use Rattle.hk_kinds.specs.declared.properties.Prop.TheVariants as property
use Rattle.hk_spec.proofs.Lookups.{small_within}
use Rattle.hk_spec.proofs.NodeScopes.{SetFits, NumFits, CondFits, good_set, good_num, good_cond, fits-one, fits-set_param, fits-bits, fits-union, fits-common}
use Rattle.hk_spec.proofs.NodeScopes.{fits-literal, fits-value, fits-index, fits-positions, fits-best, fits-number_param, fits-item, fits-number, fits-low, fits-high, fits-card, fits-plus, fits-minus, fits-times}
use Rattle.hk_spec.proofs.NodeScopes.{fits-at_most, fits-below, fits-at_least, fits-lacks, fits-both}
use Rattle.hk_spec.specs.Library.{alldifferent_spec, among_spec, sum_spec, objective_spec, with_value, differing_test, step_by, total_test, counted, weighted}
use Rattle.hk_spec.specs.Scopes.{Scope, kinds_of, is_interval_kind, is_set_param, is_list_param, is_set_kind, is_number_kind, is_good_num, is_good_set}
use Rattle.hk_spec.specs.Specifications.{IsSpecification, test_scope, down_scope, up_scope, is_step}
use Rattle.hk_spec.specs.Trees as tree
use Rattle.hk_spec.specs.declared.expressions.NumExpr.{NumExpr}
use Rattle.hk_spec.specs.declared.expressions.Side.{Side}
use Rattle.hk_spec.specs.declared.expressions.Side.TheVariants.{Down, Up}

-- the initial values are of their kinds
pub interval_begins : IsOfKind Interval (property.Pair (pos 0) (pos 0))
interval_begins = is_interval (small_within 0 (omega arith)) (small_within 0 (omega arith))

min_begins : IsOfKind Min (property.Num (pos 0))
min_begins = is_min (small_within 0 (omega arith))

some_begins : IsOfKind SomeBits (property.Bits 0)
some_begins = is_some (omega arith)

all_begins : IsOfKind AllBits (property.Bits 0)
all_begins = is_all (omega arith)

-- two good halves, and the end of a list of steps
pub both_true : {a b : Bool} → a ≡ true → b ≡ true → a && b ≡ true
both_true h k = ap₂ (λ x y. x && y) h k

module _ (scope : Scope) where
  -- what a position adds
  pub counted_fits : is_set_param (slice_get scope.params 2) ≡ true → NumFits scope 3 counted
  counted_fits set = fits-card scope (fits-common scope (fits-one scope) (fits-set_param scope 2 set))

  pub weighted_fits : is_list_param (slice_get scope.params 0) ≡ true → NumFits scope 2 weighted
  weighted_fits list = fits-times scope (fits-item scope 0 list) (fits-value scope)

  -- the step by it is good
  pub step_by_good : (side : Side) {depth : ℕ} {e : NumExpr} → is_interval_kind (slice_get (kinds_of scope side) 0) ≡ true → NumFits scope depth e → nat_le (max 1 depth + 1) 32 ≡ true → is_step scope Interval (step_by side e) ≡ true
  step_by_good side interval fits small = both_true (good_num (fits-plus scope (fits-low scope side 0 interval) fits) small) (good_num (fits-plus scope (fits-high scope side 0 interval) fits) small)

  -- the test of a total fits
  pub total_fits : {depth : ℕ} {e least most : NumExpr} → is_interval_kind (slice_get scope.down 0) ≡ true → is_interval_kind (slice_get scope.up 0) ≡ true → NumFits scope depth e → NumFits scope 1 least → NumFits scope 1 most
      → CondFits scope (max (max (max (max 1 depth + 1) 1 + 1) 1 + 1) (max 1 (max (max 1 depth + 1) 1 + 1) + 1) + 1) (total_test e least most)
  total_fits down up fits least most = fits-both scope
      (fits-at_most scope (fits-plus scope (fits-plus scope (fits-low scope Down 0 down) fits) (fits-low scope Up 0 up)) most)
      (fits-at_most scope least (fits-plus scope (fits-plus scope (fits-high scope Down 0 down) fits) (fits-high scope Up 0 up)))

  -- a set with the value
  with_value_fits : (side : Side) (place : ℕ) → is_set_kind (slice_get (kinds_of scope side) place) ≡ true → SetFits scope 2 (with_value (tree.bits side place))
  with_value_fits side place set = fits-union scope (fits-bits scope side place set) (fits-one scope)

  held_fits : (side : Side) → is_set_kind (slice_get (kinds_of scope side) 0) ≡ true → NumFits scope 3 (tree.card (with_value (tree.bits side 0)))
  held_fits side set = fits-card scope (with_value_fits side 0 set)

  with_value_good : (side : Side) (place : ℕ) → is_set_kind (slice_get (kinds_of scope side) place) ≡ true → is_good_set scope (with_value (tree.bits side place)) ≡ true
  with_value_good side place set = good_set (with_value_fits side place set) refl

  cost_good : (side : Side) → is_number_kind (slice_get (kinds_of scope side) 0) ≡ true → is_list_param (slice_get scope.params 0) ≡ true → is_good_num scope (tree.plus (tree.number side 0) weighted) ≡ true
  cost_good side number list = good_num (fits-plus scope (fits-number scope side 0 number) (weighted_fits list)) refl

  -- the test of `alldifferent` fits
  pub differing_fits : is_set_kind (slice_get scope.down 0) ≡ true → is_set_kind (slice_get scope.down 1) ≡ true → is_set_kind (slice_get scope.up 0) ≡ true → is_set_kind (slice_get scope.up 1) ≡ true → CondFits scope 6 differing_test
  differing_fits down down_all up up_all =
      let lack = fits-both scope (fits-lacks scope (fits-bits scope Down 1 down_all)) (fits-lacks scope (fits-bits scope Up 1 up_all)) in
      let earlier = fits-at_least scope (held_fits Down down) (fits-plus scope (fits-index scope) (fits-literal scope (pos 1) refl)) in
      let later = fits-at_least scope (held_fits Up up) (fits-minus scope (fits-positions scope) (fits-index scope)) in
      fits-both scope lack (fits-both scope earlier later)

pub alldifferent_rules : IsSpecification alldifferent_spec
alldifferent_rules = record {
  named = refl;
  free_names = refl;
  distinct_names = refl;
  few_params = omega arith;
  few_down = omega arith;
  few_up = omega arith;
  initial_down = one_more some_begins (one_more all_begins no_kinds);
  initial_up = one_more some_begins (one_more all_begins no_kinds);
  good_test = good_cond (differing_fits (test_scope alldifferent_spec) refl refl refl refl) refl;
  good_down_steps = both_true (with_value_good (down_scope alldifferent_spec) Down 0 refl) (both_true (with_value_good (down_scope alldifferent_spec) Down 1 refl) refl);
  good_up_steps = both_true (with_value_good (up_scope alldifferent_spec) Up 0 refl) (both_true (with_value_good (up_scope alldifferent_spec) Up 1 refl) refl);
}

pub among_rules : IsSpecification among_spec
among_rules = record {
  named = refl;
  free_names = refl;
  distinct_names = refl;
  few_params = omega arith;
  few_down = omega arith;
  few_up = omega arith;
  initial_down = one_more interval_begins no_kinds;
  initial_up = one_more interval_begins no_kinds;
  good_test = good_cond (total_fits (test_scope among_spec) refl refl (counted_fits (test_scope among_spec) refl) (fits-number_param (test_scope among_spec) 0 refl) (fits-number_param (test_scope among_spec) 1 refl)) refl;
  good_down_steps = both_true (step_by_good (down_scope among_spec) Down refl (counted_fits (down_scope among_spec) refl) refl) refl;
  good_up_steps = both_true (step_by_good (up_scope among_spec) Up refl (counted_fits (up_scope among_spec) refl) refl) refl;
}

pub sum_rules : IsSpecification sum_spec
sum_rules = record {
  named = refl;
  free_names = refl;
  distinct_names = refl;
  few_params = omega arith;
  few_down = omega arith;
  few_up = omega arith;
  initial_down = one_more interval_begins no_kinds;
  initial_up = one_more interval_begins no_kinds;
  good_test = good_cond (total_fits (test_scope sum_spec) refl refl (weighted_fits (test_scope sum_spec) refl) (fits-number_param (test_scope sum_spec) 1 refl) (fits-number_param (test_scope sum_spec) 2 refl)) refl;
  good_down_steps = both_true (step_by_good (down_scope sum_spec) Down refl (weighted_fits (down_scope sum_spec) refl) refl) refl;
  good_up_steps = both_true (step_by_good (up_scope sum_spec) Up refl (weighted_fits (up_scope sum_spec) refl) refl) refl;
}

pub objective_rules : IsSpecification objective_spec
objective_rules = record {
  named = refl;
  free_names = refl;
  distinct_names = refl;
  few_params = omega arith;
  few_down = omega arith;
  few_up = omega arith;
  initial_down = one_more min_begins no_kinds;
  initial_up = one_more min_begins no_kinds;
  good_test = good_cond (fits-below (test_scope objective_spec) (fits-plus (test_scope objective_spec) (fits-plus (test_scope objective_spec) (fits-number (test_scope objective_spec) Down 0 refl) (weighted_fits (test_scope objective_spec) refl)) (fits-number (test_scope objective_spec) Up 0 refl)) (fits-best (test_scope objective_spec) refl)) refl;
  good_down_steps = both_true (cost_good (down_scope objective_spec) Down refl refl) refl;
  good_up_steps = both_true (cost_good (up_scope objective_spec) Up refl refl) refl;
}
