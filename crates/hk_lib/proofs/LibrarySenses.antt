-- The library's specifications are graded: the senses of their tests and steps, part by part.
use Rattle.std.proofs.Common.{◌≡◌, ℕ, ℤ, pos, ◌<◌, length, slice_index_or, zero, suc, ◌+◌, ◌-◌, List, [], ◌∷◌, None, arith, refl, sym, subst, ap, ap₂, ◌∙◌}
use Rattle.hk_kinds.specs.declared.kinds.Kind.TheVariants.{Interval}
use Rattle.hk_spec.proofs.NodeSenses.{num_reading-value, num_reading-item, num_sense-literal, num_sense-index, num_sense-positions, num_sense-best, num_sense-number_param, num_sense-number, num_sense-low, num_sense-high, num_sense-card, num_sense-plus, num_sense-minus, num_sense-times}
use Rattle.hk_spec.proofs.NodeSenses.{set_sense-one, set_sense-set_param, set_sense-bits, set_sense-union, set_sense-common, cond_sense-at_most, cond_sense-below, cond_sense-at_least, cond_sense-lacks, cond_sense-both, cond_sense-either}
use Rattle.hk_spec.specs.Grades.{IsGraded, Kinds, kind_at, kinds_in, turned, combined, product_sense, number_sense, bits_sense, num_sense, set_sense, cond_sense, unless_rises, unless_falls, first_wrong, wrong_step, wrong_step_at, wrong_sense}
use Rattle.hk_spec.specs.Library.{alldifferent_spec, among_spec, gcc_bounds, sum_spec, objective_spec, sequence_spec, with_value, differing_test, step_by, total_test, counted, weighted, lags_from, shifts_from, window_test}
use Rattle.hk_spec.specs.Specifications.{BoundSpecification, kinds_of_properties}
use Rattle.hk_spec.specs.Trees as tree
use Rattle.hk_spec.specs.declared.expressions.NumExpr.{NumExpr}
use Rattle.hk_spec.specs.declared.expressions.Side.{Side}
use Rattle.hk_spec.specs.declared.expressions.Side.TheVariants.{Down, Up}
use Rattle.hk_spec.specs.declared.senses.Place.{Place}
use Rattle.hk_spec.specs.declared.senses.Place.TheVariants as place
use Rattle.hk_spec.specs.declared.senses.Sense.{Sense}
use Rattle.hk_spec.specs.declared.senses.Sense.TheVariants.{Fixed, Rises, Falls}

module _ (of : Kinds) where
  -- what a position adds has no state in it
  counted_sense : num_sense of counted ≡ Fixed
  counted_sense = num_sense-card of (tree.common tree.one (tree.set_param 2)) ∙ (set_sense-common of tree.one (tree.set_param 2) ∙ ap₂ combined (set_sense-one of) (set_sense-set_param of 2))

  weighted_sense : num_sense of weighted ≡ Fixed
  weighted_sense = num_sense-times of (tree.item 0) tree.value ∙ ap₂ product_sense (num_reading-item of 0) (num_reading-value of)

  -- a sum moves as its first part where nothing else moves
  grown_sense : (p e : NumExpr) {sense : Sense} → num_sense of p ≡ sense → num_sense of e ≡ Fixed → num_sense of (tree.plus p e) ≡ combined sense Fixed
  grown_sense p e h k = num_sense-plus of p e ∙ ap₂ combined h k

  -- the step by what a position adds is allowed
  step_allowed : (side : Side) (e : NumExpr) → num_sense of e ≡ Fixed → wrong_step of Interval (step_by side e) ≡ None
  step_allowed side e fixed = ap₂ (λ a b. first_wrong (unless_falls a) (unless_rises b)) (grown_sense (tree.low side 0) e (num_sense-low of side 0) fixed) (grown_sense (tree.high side 0) e (num_sense-high of side 0) fixed)

  -- the test of a total may rise
  total_sense : (e least most : NumExpr) → num_sense of e ≡ Fixed → num_sense of least ≡ Fixed → num_sense of most ≡ Fixed → cond_sense of (total_test e least most) ≡ Rises
  total_sense e least most fixed l m =
      let low : num_sense of (tree.plus (tree.plus (tree.low Down 0) e) (tree.low Up 0)) ≡ Falls = num_sense-plus of (tree.plus (tree.low Down 0) e) (tree.low Up 0) ∙ ap₂ combined (grown_sense (tree.low Down 0) e (num_sense-low of Down 0) fixed) (num_sense-low of Up 0) in
      let high : num_sense of (tree.plus (tree.plus (tree.high Down 0) e) (tree.high Up 0)) ≡ Rises = num_sense-plus of (tree.plus (tree.high Down 0) e) (tree.high Up 0) ∙ ap₂ combined (grown_sense (tree.high Down 0) e (num_sense-high of Down 0) fixed) (num_sense-high of Up 0) in
      let upper : cond_sense of (tree.at_most (tree.plus (tree.plus (tree.low Down 0) e) (tree.low Up 0)) most) ≡ Rises = cond_sense-at_most of (tree.plus (tree.plus (tree.low Down 0) e) (tree.low Up 0)) most ∙ ap₂ (λ a b. combined (turned a) b) low m in
      let lower : cond_sense of (tree.at_most least (tree.plus (tree.plus (tree.high Down 0) e) (tree.high Up 0))) ≡ Rises = cond_sense-at_most of least (tree.plus (tree.plus (tree.high Down 0) e) (tree.high Up 0)) ∙ ap₂ (λ a b. combined (turned a) b) l high in
      cond_sense-both of (tree.at_most (tree.plus (tree.plus (tree.low Down 0) e) (tree.low Up 0)) most) (tree.at_most least (tree.plus (tree.plus (tree.high Down 0) e) (tree.high Up 0))) ∙ ap₂ combined upper lower

  -- a set with the value moves as the set
  with_value_sense : (side : Side) (at : ℕ) → set_sense of (with_value (tree.bits side at)) ≡ combined (bits_sense (kind_at of side at)) Fixed
  with_value_sense side at = set_sense-union of (tree.bits side at) tree.one ∙ ap₂ combined (set_sense-bits of side at) (set_sense-one of)

  lacks_sense : (side : Side) (at : ℕ) → cond_sense of (tree.lacks (tree.bits side at)) ≡ turned (bits_sense (kind_at of side at))
  lacks_sense side at = cond_sense-lacks of (tree.bits side at) ∙ ap turned (set_sense-bits of side at)

  held_sense : (side : Side) (count : NumExpr) → num_sense of count ≡ Fixed → cond_sense of (tree.at_least (tree.card (with_value (tree.bits side 0))) count) ≡ combined (combined (bits_sense (kind_at of side 0)) Fixed) Fixed
  held_sense side count fixed = cond_sense-at_least of (tree.card (with_value (tree.bits side 0))) count ∙ ap₂ (λ a b. combined a (turned b)) (num_sense-card of (with_value (tree.bits side 0)) ∙ with_value_sense side 0) fixed

  reached_sense : num_sense of (tree.plus tree.index (tree.literal (pos 1))) ≡ Fixed
  reached_sense = num_sense-plus of tree.index (tree.literal (pos 1)) ∙ ap₂ combined (num_sense-index of) (num_sense-literal of (pos 1))

  left_sense : num_sense of (tree.minus tree.positions tree.index) ≡ Fixed
  left_sense = num_sense-minus of tree.positions tree.index ∙ ap₂ (λ a b. combined a (turned b)) (num_sense-positions of) (num_sense-index of)

  -- the cost of a side, and all of it
  cost_sense : (side : Side) → num_sense of (tree.plus (tree.number side 0) weighted) ≡ combined (number_sense (kind_at of side 0)) Fixed
  cost_sense side = grown_sense (tree.number side 0) weighted (num_sense-number of side 0) weighted_sense

  all_cost_sense : cond_sense of (tree.below (tree.plus (tree.plus (tree.number Down 0) weighted) (tree.number Up 0)) tree.best) ≡ combined (turned (combined (combined (number_sense (kind_at of Down 0)) Fixed) (number_sense (kind_at of Up 0)))) Fixed
  all_cost_sense =
      let cost : num_sense of (tree.plus (tree.plus (tree.number Down 0) weighted) (tree.number Up 0)) ≡ combined (combined (number_sense (kind_at of Down 0)) Fixed) (number_sense (kind_at of Up 0)) = num_sense-plus of (tree.plus (tree.number Down 0) weighted) (tree.number Up 0) ∙ ap₂ combined (cost_sense Down) (num_sense-number of Up 0) in
      cond_sense-below of (tree.plus (tree.plus (tree.number Down 0) weighted) (tree.number Up 0)) tree.best ∙ ap₂ (λ a b. combined (turned a) b) cost (num_sense-best of)

  -- the count of a window rises with the first number and falls with the second
  least_count_sense : (last : ℕ) → num_sense of (tree.minus (tree.plus (tree.low Down 0) counted) (tree.high Down last)) ≡ Falls
  least_count_sense last = num_sense-minus of (tree.plus (tree.low Down 0) counted) (tree.high Down last) ∙ ap₂ (λ a b. combined a (turned b)) (grown_sense (tree.low Down 0) counted (num_sense-low of Down 0) counted_sense) (num_sense-high of Down last)

  greatest_count_sense : (last : ℕ) → num_sense of (tree.minus (tree.plus (tree.high Down 0) counted) (tree.low Down last)) ≡ Rises
  greatest_count_sense last = num_sense-minus of (tree.plus (tree.high Down 0) counted) (tree.low Down last) ∙ ap₂ (λ a b. combined a (turned b)) (grown_sense (tree.high Down 0) counted (num_sense-high of Down 0) counted_sense) (num_sense-low of Down last)

  window_sense : (last : ℕ) → cond_sense of (window_test last) ≡ Rises
  window_sense last =
      let early : cond_sense of (tree.below tree.index (tree.literal (pos last))) ≡ Fixed = cond_sense-below of tree.index (tree.literal (pos last)) ∙ ap₂ (λ a b. combined (turned a) b) (num_sense-index of) (num_sense-literal of (pos last)) in
      let upper : cond_sense of (tree.at_most (tree.minus (tree.plus (tree.low Down 0) counted) (tree.high Down last)) (tree.number_param 1)) ≡ Rises = cond_sense-at_most of (tree.minus (tree.plus (tree.low Down 0) counted) (tree.high Down last)) (tree.number_param 1) ∙ ap₂ (λ a b. combined (turned a) b) (least_count_sense last) (num_sense-number_param of 1) in
      let lower : cond_sense of (tree.at_most (tree.number_param 0) (tree.minus (tree.plus (tree.high Down 0) counted) (tree.low Down last))) ≡ Rises = cond_sense-at_most of (tree.number_param 0) (tree.minus (tree.plus (tree.high Down 0) counted) (tree.low Down last)) ∙ ap₂ (λ a b. combined (turned a) b) (num_sense-number_param of 0) (greatest_count_sense last) in
      let within : cond_sense of (tree.both (tree.at_most (tree.minus (tree.plus (tree.low Down 0) counted) (tree.high Down last)) (tree.number_param 1)) (tree.at_most (tree.number_param 0) (tree.minus (tree.plus (tree.high Down 0) counted) (tree.low Down last)))) ≡ Rises = cond_sense-both of (tree.at_most (tree.minus (tree.plus (tree.low Down 0) counted) (tree.high Down last)) (tree.number_param 1)) (tree.at_most (tree.number_param 0) (tree.minus (tree.plus (tree.high Down 0) counted) (tree.low Down last))) ∙ ap₂ combined upper lower in
      cond_sense-either of (tree.below tree.index (tree.literal (pos last))) (tree.both (tree.at_most (tree.minus (tree.plus (tree.low Down 0) counted) (tree.high Down last)) (tree.number_param 1)) (tree.at_most (tree.number_param 0) (tree.minus (tree.plus (tree.high Down 0) counted) (tree.low Down last)))) ∙ ap₂ combined early within

  -- the shifts of a window are allowed, wherever they stand
  shift_allowed : (from count at_kind kinds : ℕ) (k : ℕ) → wrong_step_at of (kinds_of_properties (lags_from at_kind kinds)) (shifts_from from count) k ≡ None
  shift_allowed from count at_kind zero k = refl
  shift_allowed from zero at_kind (suc kinds) zero = refl
  shift_allowed from zero at_kind (suc kinds) (suc k) = shift_allowed from zero (at_kind + 1) kinds k
  shift_allowed from (suc count) at_kind (suc kinds) zero = ap₂ (λ a b. first_wrong (unless_falls a) (unless_rises b)) (num_sense-low of Down from) (num_sense-high of Down from)
  shift_allowed from (suc count) at_kind (suc kinds) (suc k) = shift_allowed (from + 1) count (at_kind + 1) kinds k

differing_sense : cond_sense (kinds_in alldifferent_spec) differing_test ≡ Rises
differing_sense =
    let new : cond_sense (kinds_in alldifferent_spec) (tree.both (tree.lacks (tree.bits Down 1)) (tree.lacks (tree.bits Up 1))) ≡ Rises = cond_sense-both (kinds_in alldifferent_spec) (tree.lacks (tree.bits Down 1)) (tree.lacks (tree.bits Up 1)) ∙ ap₂ combined (lacks_sense (kinds_in alldifferent_spec) Down 1) (lacks_sense (kinds_in alldifferent_spec) Up 1) in
    let many : cond_sense (kinds_in alldifferent_spec) (tree.both (tree.at_least (tree.card (with_value (tree.bits Down 0))) (tree.plus tree.index (tree.literal (pos 1)))) (tree.at_least (tree.card (with_value (tree.bits Up 0))) (tree.minus tree.positions tree.index))) ≡ Rises = cond_sense-both (kinds_in alldifferent_spec) (tree.at_least (tree.card (with_value (tree.bits Down 0))) (tree.plus tree.index (tree.literal (pos 1)))) (tree.at_least (tree.card (with_value (tree.bits Up 0))) (tree.minus tree.positions tree.index)) ∙ ap₂ combined (held_sense (kinds_in alldifferent_spec) Down (tree.plus tree.index (tree.literal (pos 1))) (reached_sense (kinds_in alldifferent_spec))) (held_sense (kinds_in alldifferent_spec) Up (tree.minus tree.positions tree.index) (left_sense (kinds_in alldifferent_spec))) in
    cond_sense-both (kinds_in alldifferent_spec) (tree.both (tree.lacks (tree.bits Down 1)) (tree.lacks (tree.bits Up 1))) (tree.both (tree.at_least (tree.card (with_value (tree.bits Down 0))) (tree.plus tree.index (tree.literal (pos 1)))) (tree.at_least (tree.card (with_value (tree.bits Up 0))) (tree.minus tree.positions tree.index))) ∙ ap₂ combined new many

pub alldifferent_graded : IsGraded alldifferent_spec
alldifferent_graded = record { allowed = allowed }
  where
    allowed : (at : Place) → wrong_sense alldifferent_spec at ≡ None
    allowed place.Test = ap unless_rises differing_sense
    allowed (place.Down zero) = ap unless_rises (with_value_sense (kinds_in alldifferent_spec) Down 0)
    allowed (place.Down (suc zero)) = ap unless_falls (with_value_sense (kinds_in alldifferent_spec) Down 1)
    allowed (place.Down (suc (suc k))) = refl
    allowed (place.Up zero) = ap unless_rises (with_value_sense (kinds_in alldifferent_spec) Up 0)
    allowed (place.Up (suc zero)) = ap unless_falls (with_value_sense (kinds_in alldifferent_spec) Up 1)
    allowed (place.Up (suc (suc k))) = refl

pub among_graded : IsGraded among_spec
among_graded = record { allowed = allowed }
  where
    allowed : (at : Place) → wrong_sense among_spec at ≡ None
    allowed place.Test = ap unless_rises (total_sense (kinds_in among_spec) counted (tree.number_param 0) (tree.number_param 1) (counted_sense (kinds_in among_spec)) (num_sense-number_param (kinds_in among_spec) 0) (num_sense-number_param (kinds_in among_spec) 1))
    allowed (place.Down zero) = step_allowed (kinds_in among_spec) Down counted (counted_sense (kinds_in among_spec))
    allowed (place.Down (suc k)) = refl
    allowed (place.Up zero) = step_allowed (kinds_in among_spec) Up counted (counted_sense (kinds_in among_spec))
    allowed (place.Up (suc k)) = refl

-- and each row of `gcc`
pub gcc_graded : (n : ℕ) (rows : List (ℕ × ℤ × ℤ)) (k : ℕ) (other : BoundSpecification) → k < length (gcc_bounds n rows) → IsGraded (slice_index_or (gcc_bounds n rows) k other).spec
gcc_graded n [] k other within = absurd (omega arith)
gcc_graded n (row ∷ rows) zero other within = among_graded
gcc_graded n (row ∷ rows) (suc k) other within = gcc_graded n rows k other (omega arith)

pub sum_graded : IsGraded sum_spec
sum_graded = record { allowed = allowed }
  where
    allowed : (at : Place) → wrong_sense sum_spec at ≡ None
    allowed place.Test = ap unless_rises (total_sense (kinds_in sum_spec) weighted (tree.number_param 1) (tree.number_param 2) (weighted_sense (kinds_in sum_spec)) (num_sense-number_param (kinds_in sum_spec) 1) (num_sense-number_param (kinds_in sum_spec) 2))
    allowed (place.Down zero) = step_allowed (kinds_in sum_spec) Down weighted (weighted_sense (kinds_in sum_spec))
    allowed (place.Down (suc k)) = refl
    allowed (place.Up zero) = step_allowed (kinds_in sum_spec) Up weighted (weighted_sense (kinds_in sum_spec))
    allowed (place.Up (suc k)) = refl

pub objective_graded : IsGraded objective_spec
objective_graded = record { allowed = allowed }
  where
    allowed : (at : Place) → wrong_sense objective_spec at ≡ None
    allowed place.Test = ap unless_rises (all_cost_sense (kinds_in objective_spec))
    allowed (place.Down zero) = ap unless_falls (cost_sense (kinds_in objective_spec) Down)
    allowed (place.Down (suc k)) = refl
    allowed (place.Up zero) = ap unless_falls (cost_sense (kinds_in objective_spec) Up)
    allowed (place.Up (suc k)) = refl

-- the first step of a window counts, and each other one is a shift
window_steps_allowed : (of : Kinds) (window k : ℕ) → wrong_step_at of (kinds_of_properties (lags_from 0 window)) (step_by Down counted ∷ shifts_from 0 (window - 1)) k ≡ None
window_steps_allowed of zero k = refl
window_steps_allowed of (suc last) zero = step_allowed of Down counted (counted_sense of)
window_steps_allowed of (suc last) (suc k) =
    let less : suc last - 1 ≡ last = omega arith in
    subst (λ count. wrong_step_at of (kinds_of_properties (lags_from 1 last)) (shifts_from 0 count) k ≡ None) (sym less) (shift_allowed of 0 last 1 last k)

pub sequence_graded : (window : ℕ) → IsGraded (sequence_spec window)
sequence_graded window = record { allowed = allowed }
  where
    allowed : (at : Place) → wrong_sense (sequence_spec window) at ≡ None
    allowed place.Test = ap unless_rises (window_sense (kinds_in (sequence_spec window)) (window - 1))
    allowed (place.Down k) = window_steps_allowed (kinds_in (sequence_spec window)) window k
    allowed (place.Up k) = refl
