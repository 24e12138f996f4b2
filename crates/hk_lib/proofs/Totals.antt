-- The exact run of a specification that adds a weight for each value to a sum, and tests the sum of all weights.
use Rattle.std.proofs.Common.{◌≡◌, ◌↔◌, ℕ, ℤ, pos, neg_ℤ, ◌+◌, ◌*◌, ◌<◌, ◌≤◌, ◌≤ℤ◌, ◌+ℤ◌, List, [], ◌∷◌, length, All, suc, IsTrue, arith, ap, sym, ◌∙◌, subst}
use Rattle.std.proofs.lemmas.Int.{ints, clamps}
use Rattle.hk_kinds.specs.Limits.{clamped, IsWithinLimit}
use Rattle.hk_kinds.specs.declared.properties.Prop.{Prop}
use Rattle.hk_spec.specs.Runs.{Accepts, AcceptsFrom, at_end, one_more, exact_down, exact_down_from, exact_up}
use Rattle.hk_spec.specs.Specifications.{BoundSpecification, initial_values}
use Rattle.hk_spec.specs.Steps.{down_step, up_step, test_passes}

-- the sum of the weights of the values from a position on
abbrev pub total : (ℕ → ℕ → ℤ) → ℕ → List ℕ → ℤ
total weight position [] = pos 0
total weight position (value ∷ values) = weight position value +ℤ total weight (position + 1) values

-- the number is no greater in size than so many weights can add up to, each of at most 127,000,000 in size
pub record IsOfWeights (count : ℕ) (n : ℤ) : Type 0 where
  pub least : neg_ℤ (pos (127000000 * count)) ≤ℤ n
  pub most : n ≤ℤ pos (127000000 * count)

-- a specification whose states hold one sum: it begins at 0, each step adds the weight of the value, and the test asks
-- of the sum so far, the weight of the value and the sum to come only whether all together pass
pub record IsSumming (b : BoundSpecification) (best : ℤ) (weight : ℕ → ℕ → ℤ) (state : ℤ → List Prop) (Passes : ℤ → Type 0) : Type 0 where
  pub weights : (position value : ℕ) → value < 128 → IsOfWeights 1 (weight position value)
  pub first_down : initial_values b.spec.down ≡ state (pos 0)
  pub first_up : initial_values b.spec.up ≡ state (pos 0)
  pub down_steps : (position value : ℕ) (sum : ℤ) → value < 128 → down_step b position value (state sum) ≡ state (clamped (sum +ℤ weight position value))
  pub up_steps : (position value : ℕ) (sum : ℤ) → value < 128 → up_step b position value (state sum) ≡ state (clamped (sum +ℤ weight position value))
  pub tests : (position value : ℕ) (before after : ℤ) → value < 128 → IsTrue (test_passes b position value (state before) (state after) best) ↔ Passes (clamped (clamped (before +ℤ weight position value) +ℤ after))

-- a number within the limit is not changed by it
pub clamped_same : (n : ℤ) → IsWithinLimit n → clamped n ≡ n
clamped_same n h = omega (arith, ints, clamps, h.least, h.most)

-- at most 256 weights stay within the limit
pub within_limit : (count : ℕ) (n : ℤ) → count ≤ 256 → IsOfWeights count n → IsWithinLimit n
within_limit count n few h = record { least = omega (arith, ints, h.least, h.most); most = omega (arith, ints, h.least, h.most) }

-- the first of values that are all small, and the others
pub first_small : (value : ℕ) (values : List ℕ) → All (λ v. v < 128) (value ∷ values) → value < 128
first_small value values small = small 0 0 (omega arith)

pub others_small : (value : ℕ) (values : List ℕ) → All (λ v. v < 128) (value ∷ values) → All (λ v. v < 128) values
others_small value values small = λ k d below. small (suc k) d (omega arith)

-- so many weights and so many more
add_weights : (count more : ℕ) (m n : ℤ) → IsOfWeights count m → IsOfWeights more n → IsOfWeights (count + more) (m +ℤ n)
add_weights count more m n h k = record { least = omega (arith, ints, h.least, k.least); most = omega (arith, ints, h.most, k.most) }

-- the clamped sum of so few weights is their sum
sum_same : (count more : ℕ) (m n : ℤ) → count + more ≤ 256 → IsOfWeights count m → IsOfWeights more n → clamped (m +ℤ n) ≡ m +ℤ n
sum_same count more m n few h k = clamped_same (m +ℤ n) (within_limit (count + more) (m +ℤ n) few (add_weights count more m n h k))

-- sums in another order
three : (a b c : ℤ) → (a +ℤ b) +ℤ c ≡ a +ℤ (b +ℤ c)
three a b c = omega (arith, ints)

turned : (a b : ℤ) → a +ℤ b ≡ b +ℤ a
turned a b = omega (arith, ints)

from_zero : (a : ℤ) → pos 0 +ℤ a ≡ a
from_zero a = omega (arith, ints)

to_zero : (a : ℤ) → a +ℤ pos 0 ≡ a
to_zero a = omega (arith, ints)

-- no weights
no_weights : IsOfWeights 0 (pos 0)
no_weights = record { least = omega (arith, ints); most = omega (arith, ints) }

-- the test of the first position of an accepting run
test_of_run : {b : BoundSpecification} {best : ℤ} {position value : ℕ} {down : List Prop} {values : List ℕ} → AcceptsFrom b best position down (value ∷ values) → IsTrue (test_passes b position value down (exact_up b (position + 1) values) best)
test_of_run (one_more holds more) = holds

module _ {b : BoundSpecification} {best : ℤ} {weight : ℕ → ℕ → ℤ} {state : ℤ → List Prop} {Passes : ℤ → Type 0} (sums : IsSumming b best weight state Passes) where
  -- a total is one of as many weights as there are values
  pub total_of_weights : (position : ℕ) (values : List ℕ) → All (λ v. v < 128) values → IsOfWeights (length values) (total weight position values)
  total_of_weights position [] small = no_weights
  total_of_weights position (value ∷ values) small =
      let sum = add_weights 1 (length values) (weight position value) (total weight (position + 1) values) (sums.weights position value (first_small value values small)) (total_of_weights (position + 1) values (others_small value values small)) in
      subst (λ n. IsOfWeights n (total weight position (value ∷ values))) (omega arith) sum

  -- the up state is the sum to come
  pub up_is : (position : ℕ) (values : List ℕ) → length values ≤ 256 → All (λ v. v < 128) values → exact_up b position values ≡ state (total weight position values)
  up_is position [] few small = sums.first_up
  up_is position (value ∷ values) few small =
      let later = total weight (position + 1) values in
      let below = first_small value values small in
      let others = others_small value values small in
      let after : exact_up b position (value ∷ values) ≡ up_step b position value (state later) = ap (up_step b position value) (up_is (position + 1) values (omega arith) others) in
      let stepped : up_step b position value (state later) ≡ state (clamped (later +ℤ weight position value)) = sums.up_steps position value later below in
      let same : clamped (later +ℤ weight position value) ≡ weight position value +ℤ later = sum_same (length values) 1 later (weight position value) (omega arith) (total_of_weights (position + 1) values others) (sums.weights position value below) ∙ turned later (weight position value) in
      after ∙ (stepped ∙ ap state same)

  -- the down state after values is the sum before them and theirs
  down_from : (position : ℕ) (values : List ℕ) (done : ℕ) (before : ℤ) → done + length values ≤ 256 → All (λ v. v < 128) values → IsOfWeights done before → exact_down_from b position (state before) values ≡ state (before +ℤ total weight position values)
  down_from position [] done before few small h = ap state (sym (to_zero before))
  down_from position (value ∷ values) done before few small h =
      let w = weight position value in
      let below = first_small value values small in
      let one = sums.weights position value below in
      let same : clamped (before +ℤ w) ≡ before +ℤ w = sum_same done 1 before w (omega arith) h one in
      let stepped : down_step b position value (state before) ≡ state (before +ℤ w) = sums.down_steps position value before below ∙ ap state same in
      let more : exact_down_from b (position + 1) (state (before +ℤ w)) values ≡ state ((before +ℤ w) +ℤ total weight (position + 1) values) = down_from (position + 1) values (done + 1) (before +ℤ w) (omega arith) (others_small value values small) (add_weights done 1 before w h one) in
      ap (λ s. exact_down_from b (position + 1) s values) stepped ∙ (more ∙ ap state (three before w (total weight (position + 1) values)))

  -- the down state after all values is the sum of their weights
  pub down_is : (values : List ℕ) → length values ≤ 256 → All (λ v. v < 128) values → exact_down b values ≡ state (total weight 0 values)
  down_is values few small =
      let first : exact_down b values ≡ exact_down_from b 0 (state (pos 0)) values = ap (λ s. exact_down_from b 0 s values) sums.first_down in
      first ∙ (down_from 0 values 0 (pos 0) (omega arith) small no_weights ∙ ap state (from_zero (total weight 0 values)))

  -- what is tested at a position is the sum of all weights
  whole_is : (position value : ℕ) (values : List ℕ) (done : ℕ) (before : ℤ) → done + length (value ∷ values) ≤ 256 → All (λ v. v < 128) (value ∷ values) → IsOfWeights done before → clamped (clamped (before +ℤ weight position value) +ℤ total weight (position + 1) values) ≡ before +ℤ total weight position (value ∷ values)
  whole_is position value values done before few small h =
      let later = total weight (position + 1) values in
      let w = weight position value in
      let one = sums.weights position value (first_small value values small) in
      let inner : clamped (before +ℤ w) ≡ before +ℤ w = sum_same done 1 before w (omega arith) h one in
      let outer : clamped ((before +ℤ w) +ℤ later) ≡ (before +ℤ w) +ℤ later = sum_same (done + 1) (length values) (before +ℤ w) later (omega arith) (add_weights done 1 before w h one) (total_of_weights (position + 1) values (others_small value values small)) in
      ap (λ n. clamped (n +ℤ later)) inner ∙ (outer ∙ three before w later)

  -- the test at a position is the test of the sum of all weights
  test_is : (position value : ℕ) (values : List ℕ) (done : ℕ) (before : ℤ) → done + length (value ∷ values) ≤ 256 → All (λ v. v < 128) (value ∷ values) → IsOfWeights done before → IsTrue (test_passes b position value (state before) (exact_up b (position + 1) values) best) ↔ Passes (before +ℤ total weight position (value ∷ values))
  test_is position value values done before few small h =
      let up : exact_up b (position + 1) values ≡ state (total weight (position + 1) values) = up_is (position + 1) values (omega arith) (others_small value values small) in
      let at_up = sums.tests position value before (total weight (position + 1) values) (first_small value values small) in
      let whole = whole_is position value values done before few small h in (
        λ holds. subst Passes whole (at_up.0 (subst (λ u. IsTrue (test_passes b position value (state before) u best)) up holds)),
        λ passes. subst (λ u. IsTrue (test_passes b position value (state before) u best)) (sym up) (at_up.1 (subst Passes (sym whole) passes)),
      )

  -- where the sum of all weights passes, the test holds at each position
  run_from : (position : ℕ) (values : List ℕ) (done : ℕ) (before : ℤ) → done + length values ≤ 256 → All (λ v. v < 128) values → IsOfWeights done before → Passes (before +ℤ total weight position values) → AcceptsFrom b best position (state before) values
  run_from position [] done before few small h passes = at_end
  run_from position (value ∷ values) done before few small h passes =
      let w = weight position value in
      let below = first_small value values small in
      let one = sums.weights position value below in
      let later = total weight (position + 1) values in
      let same : clamped (before +ℤ w) ≡ before +ℤ w = sum_same done 1 before w (omega arith) h one in
      let stepped : down_step b position value (state before) ≡ state (before +ℤ w) = sums.down_steps position value before below ∙ ap state same in
      let more : AcceptsFrom b best (position + 1) (state (before +ℤ w)) values = run_from (position + 1) values (done + 1) (before +ℤ w) (omega arith) (others_small value values small) (add_weights done 1 before w h one) (subst Passes (sym (three before w later)) passes) in
      one_more ((test_is position value values done before few small h).1 passes) (subst (λ s. AcceptsFrom b best (position + 1) s values) (sym stepped) more)

  -- a list that has a value is accepted exactly where the sum of all weights passes
  pub accepts_total : (values : List ℕ) → 0 < length values → length values ≤ 256 → All (λ v. v < 128) values → Accepts b best values ↔ Passes (total weight 0 values)
  accepts_total [] some few small = absurd (omega arith)
  accepts_total (value ∷ values) some few small =
      let whole = from_zero (total weight 0 (value ∷ values)) in
      let first = test_is 0 value values 0 (pos 0) (omega arith) small no_weights in (
        λ run. subst Passes whole (first.0 (test_of_run (subst (λ s. AcceptsFrom b best 0 s (value ∷ values)) sums.first_down run))),
        λ passes. subst (λ s. AcceptsFrom b best 0 s (value ∷ values)) (sym sums.first_down) (run_from 0 (value ∷ values) 0 (pos 0) (omega arith) small no_weights (subst Passes (sym whole) passes)),
      )
