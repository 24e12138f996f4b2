-- The exact run of `sequence`: its states are the counts of the earlier values that are in the set, now and so many
-- values ago, so that each test is one of the window that ends at the position.
use Rattle.std.proofs.Common.{◌≡◌, ◌↔◌, ℕ, ℤ, pos, ◌+◌, ◌-◌, ◌^◌, ◌<◌, ◌≤◌, ◌+ℤ◌, ◌-ℤ◌, Bool, true, false, ◌&&◌, ◌||◌, int_le, int_lt, bit_and, count_ones, slice_get, Some, zero, suc, List, [], ◌∷◌, ◌++◌, length, map, take, drop, All, IsTrue, codes, inl, inr, ◌⊎◌, arith, refl, sym, ap, ap₂, ◌∙◌, subst, subst₂, length-take, take-add, sub-one}
use Rattle.std.proofs.lemmas.Bool.{cases_lt, cases_eq}
use Rattle.std.proofs.lemmas.Int.{ints, clamps}
use Rattle.std.proofs.lemmas.List.{length-map}
use Rattle.std.proofs.lemmas.Nat.Bits.{bit_at-lt}
use Rattle.std.specs.Int.{bit_at}
use Rattle.hk_kinds.proofs.PropertyLaws.{to_le, from_le}
use Rattle.hk_kinds.specs.Limits.{clamped}
use Rattle.hk_kinds.specs.NumberLattices.{first_true, second_true, both_true}
use Rattle.hk_kinds.specs.declared.properties.Prop.{Prop}
use Rattle.hk_kinds.specs.declared.properties.Prop.TheVariants as property
use Rattle.hk_spec.proofs.NodeValues.{num_value-literal, num_value-index, num_value-number_param, num_value-low, num_value-high, num_value-plus, num_value-minus, num_value-card, set_value-one, set_value-set_param, set_value-common, cond_holds-both, cond_holds-either, cond_holds-at_most, cond_holds-below}
use Rattle.hk_spec.specs.Library.{sequence_bound, counting_params, counted, step_by, lags_from, shifts_from, window_test}
use Rattle.hk_spec.specs.Meanings.{LiesFrom, AreAmong, EachWindow, count_in}
use Rattle.hk_spec.specs.Runs.{Accepts, AcceptsFrom, at_end, one_more, exact_down, exact_down_from, exact_up}
use Rattle.hk_kinds.specs.Views.{low_of_property, high_of_property}
use Rattle.hk_spec.specs.Settings.{Setting, set_of_argument}
use Rattle.hk_spec.specs.Specifications.{BoundSpecification, initial_values}
use Rattle.hk_spec.specs.Steps.{step_value, down_setting, test_setting, down_step, test_passes}
use Rattle.hk_spec.specs.Trees.{literal, index, number_param, low, high, plus, minus, at_most, below, one, set_param, common}
use Rattle.hk_spec.specs.Values.{num_value, set_value, cond_holds}
use Rattle.hk_spec.specs.declared.arguments.Arg.{Arg}
use Rattle.hk_spec.specs.declared.arguments.Arg.TheVariants as argument
use Rattle.hk_spec.specs.declared.expressions.NumExpr.{NumExpr}
use Rattle.hk_spec.specs.declared.expressions.Side.TheVariants.{Down}
use Rattle.hk_spec.proofs.CommonBits.{ones_of_common}
use Rattle.hk_lib.proofs.Rests.{first_left, next_left, left_within, none_left}

-- the count of a list is that of its parts
count_append : (set : ℕ) (xs ys : List ℕ) → count_in set (xs ++ ys) ≡ count_in set xs + count_in set ys
count_append set [] ys = omega arith
count_append set (x ∷ xs) ys =
    let others = count_append set xs ys in
    omega arith

-- no list has more values in a set than it has values
count_within : (set : ℕ) (xs : List ℕ) → count_in set xs ≤ length xs
count_within set [] = omega arith
count_within set (x ∷ xs) =
    let others = count_within set xs in
    omega (arith, bit_at-lt set x)

-- `card(({v} & vals))` is the bit of the value
counted_is : (at : Setting) (least most : ℤ) (set : ℕ) → at.args ≡ argument.Num least ∷ argument.Num most ∷ argument.Set set ∷ [] → num_value at counted ≡ pos (bit_at set at.value)
counted_is at least most set given =
    let known : set_value at (set_param 2) ≡ set = set_value-set_param at 2 ∙ ap (λ args. set_of_argument (slice_get args 2)) given in
    let cut : set_value at (common one (set_param 2)) ≡ bit_and (2 ^ at.value) set = set_value-common at one (set_param 2) ∙ ap₂ bit_and (set_value-one at) known in
    num_value-card at (common one (set_param 2)) ∙ (ap (λ s. pos (count_ones s)) cut ∙ ap pos (ones_of_common set at.value))

-- so many numbers, each as an Interval of that one number
abbrev pairs : List ℕ → List Prop
pairs = map (λ (count : ℕ). property.Pair (pos count) (pos count))

-- `a0` to the next and so on: the steps of the later properties are those of the state from a place on, moved by one
shifted : (at : Setting) (place count : ℕ) (counts : List ℕ) → drop place at.down ≡ pairs counts → count ≤ length counts → map (step_value at) (shifts_from place count) ≡ take count (pairs counts)
shifted at place zero counts left enough = refl
shifted at place (suc count) [] left enough = absurd (omega arith)
shifted at place (suc count) (n ∷ counts) left enough =
    let stands : slice_get at.down place ≡ Some (property.Pair (pos n) (pos n)) = first_left place at.down _ (pairs counts) left in
    let lows : num_value at (low Down place) ≡ pos n = num_value-low at Down place ∙ ap low_of_property stands in
    let highs : num_value at (high Down place) ≡ pos n = num_value-high at Down place ∙ ap high_of_property stands in
    ap₂ (λ a b. a ∷ b) (ap₂ (λ a b. property.Pair a b) lows highs) (shifted at (place + 1) count counts (next_left place at.down _ (pairs counts) left) (omega arith))

-- sums and differences of small counts, which no clamp changes
sum_small : (a b c : ℕ) → a + b ≡ c → c ≤ 256 → clamped (pos a +ℤ pos b) ≡ pos c
sum_small a b c whole few = omega (arith, ints, clamps)

difference_small : (a b c : ℕ) → b + c ≡ a → a ≤ 256 → clamped (pos a -ℤ pos b) ≡ pos c
difference_small a b c whole few = omega (arith, ints, clamps)

-- either of two truths makes their `or` true
earlier_true : (a b : Bool) → a ≡ true → (a || b) ≡ true
earlier_true a b h = grind arith

later_true : (a b : Bool) → b ≡ true → (a || b) ≡ true
later_true a b h = grind arith

-- the specification of `sequence` with a window, and a `last` of its own
abbrev lagged : ℕ → ℕ → List Arg → ℕ → BoundSpecification
lagged window last args n = record {
  spec = record {
    name = codes "sequence";
    params = counting_params;
    down = lags_from 0 window;
    up = [];
    test = window_test last;
    down_step = step_by Down counted ∷ shifts_from 0 last;
    up_step = [];
  };
  args = args;
  len = n;
}

module _ (n set last : ℕ) (least most best : ℤ) (values : List ℕ) (few : length values ≤ 256) where
  abbrev given : List Arg
  given = argument.Num least ∷ argument.Num most ∷ argument.Set set ∷ []

  abbrev all_of : BoundSpecification
  all_of = lagged (suc last) last given n

  -- how many of the values before a position are in the set
  abbrev before : ℕ → ℕ
  before position = count_in set (take position values)

  -- this now, one value ago, and so on
  abbrev lags : ℕ → ℕ → List ℕ
  lags zero position = []
  lags (suc count) position = before position ∷ lags count (position - 1)

  -- the down state before a position
  abbrev state : ℕ → List Prop
  state position = pairs (lags (suc last) position)

  -- the window of values that ends at a position
  abbrev window_at : ℕ → List ℕ
  window_at position = take (suc last) (drop (position - last) values)

  -- such a count is small
  before_small : (position : ℕ) → before position ≤ 256
  before_small position = omega (arith, count_within set (take position values), length-take position values)

  -- the counts before a place and within so many values from there on are that before the place after them
  before_window : (first size : ℕ) → before first + count_in set (take size (drop first values)) ≡ before (first + size)
  before_window first size = sym (ap (count_in set) (take-add first size values) ∙ count_append set (take first values) (take size (drop first values)))

  -- a value adds its bit
  before_next : (position value : ℕ) (rest : List ℕ) → drop position values ≡ value ∷ rest → before position + bit_at set value ≡ before (position + 1)
  before_next position value rest left =
      let one_value : count_in set (take 1 (drop position values)) ≡ bit_at set value + 0 = ap (λ l. count_in set (take 1 l)) left in
      let whole = before_window position 1 in
      omega arith

  -- before the first value all counts are 0
  first_state : (place count : ℕ) → initial_values (lags_from place count) ≡ pairs (lags count 0)
  first_state place zero = refl
  first_state place (suc count) = ap (λ l. property.Pair (pos 0) (pos 0) ∷ l) (first_state (place + 1) count)

  -- there are as many as asked for
  lags_length : (count position : ℕ) → length (lags count position) ≡ count
  lags_length zero position = refl
  lags_length (suc count) position = ap suc (lags_length count (position - 1))

  -- all but the last
  front_lags : (count position : ℕ) → take count (pairs (lags (suc count) position)) ≡ pairs (lags count position)
  front_lags zero position = refl
  front_lags (suc count) position = ap (λ l. property.Pair (pos (before position)) (pos (before position)) ∷ l) (front_lags count (position - 1))

  -- the one at a place
  lag_at : (count place position : ℕ) → place < count → slice_get (pairs (lags count position)) place ≡ Some (property.Pair (pos (before (position - place))) (pos (before (position - place))))
  lag_at zero place position within = absurd (omega arith)
  lag_at (suc count) zero position within = ap (λ p. Some (property.Pair (pos (before p)) (pos (before p)))) (omega arith)
  lag_at (suc count) (suc place) position within = lag_at count place (position - 1) (omega arith) ∙ ap (λ p. Some (property.Pair (pos (before p)) (pos (before p)))) (omega arith)

  -- the sum of a count and the bit of the value
  counted_more : (at : Setting) (e : NumExpr) (n : ℕ) → at.args ≡ given → num_value at e ≡ pos n → num_value at (plus e counted) ≡ clamped (pos n +ℤ pos (bit_at set at.value))
  counted_more at e n same is = num_value-plus at e counted ∙ ap₂ (λ a b. clamped (a +ℤ b)) is (counted_is at least most set same)

  -- a step leads from the state before a position to the one before the next
  down_is : (position value : ℕ) (rest : List ℕ) → drop position values ≡ value ∷ rest → down_step all_of position value (state position) ≡ state (position + 1)
  down_is position value rest left =
      let at = down_setting all_of position value (state position) in
      let sum : clamped (pos (before position) +ℤ pos (bit_at set value)) ≡ pos (before (position + 1)) = sum_small _ _ _ (before_next position value rest left) (before_small (position + 1)) in
      let lows : num_value at (plus (low Down 0) counted) ≡ pos (before (position + 1)) = counted_more at (low Down 0) (before position) refl (num_value-low at Down 0) ∙ sum in
      let highs : num_value at (plus (high Down 0) counted) ≡ pos (before (position + 1)) = counted_more at (high Down 0) (before position) refl (num_value-high at Down 0) ∙ sum in
      let back : position + 1 - 1 ≡ position = omega arith in
      let moved : map (step_value at) (shifts_from 0 last) ≡ pairs (lags last (position + 1 - 1)) = shifted at 0 last (lags (suc last) position) refl (omega (arith, lags_length (suc last) position)) ∙ (front_lags last position ∙ ap (λ p. pairs (lags last p)) (sym back)) in
      ap₂ (λ a b. a ∷ b) (ap₂ (λ a b. property.Pair a b) lows highs) moved

  -- the down state after all values is the one before the position after the last
  down_from : (rest : List ℕ) (position : ℕ) → drop position values ≡ rest → position + length rest ≡ length values → exact_down_from all_of position (state position) rest ≡ state (length values)
  down_from [] position left whole = ap state (omega arith)
  down_from (value ∷ rest) position left whole = ap (λ d. exact_down_from all_of (position + 1) d rest) (down_is position value rest left) ∙ down_from rest (position + 1) (next_left position values value rest left) (omega arith)

  down_at_end : exact_down all_of values ≡ state (length values)
  down_at_end = ap (λ d. exact_down_from all_of 0 d values) (first_state 0 (suc last)) ∙ down_from values 0 refl (omega arith)

  -- there are no up properties
  up_is : (position : ℕ) (rest : List ℕ) → exact_up all_of position rest ≡ []
  up_is position [] = refl
  up_is position (value ∷ rest) = refl

  -- the number that the test compares with the bounds
  abbrev number_at : ℕ → ℕ → ℤ
  number_at position value = clamped (clamped (pos (before position) +ℤ pos (bit_at set value)) -ℤ pos (before (position - last)))

  -- the test by its numbers
  test_is : (position value : ℕ) → test_passes all_of position value (state position) [] best ≡ (int_lt (pos position) (pos last) || (int_le (number_at position value) most && int_le least (number_at position value)))
  test_is position value =
      let at = test_setting all_of position value (state position) [] best in
      let lows : num_value at (plus (low Down 0) counted) ≡ clamped (pos (before position) +ℤ pos (bit_at set value)) = counted_more at (low Down 0) (before position) refl (num_value-low at Down 0) in
      let highs : num_value at (plus (high Down 0) counted) ≡ clamped (pos (before position) +ℤ pos (bit_at set value)) = counted_more at (high Down 0) (before position) refl (num_value-high at Down 0) in
      let old_low : num_value at (low Down last) ≡ pos (before (position - last)) = num_value-low at Down last ∙ ap low_of_property (lag_at (suc last) last position (omega arith)) in
      let old_high : num_value at (high Down last) ≡ pos (before (position - last)) = num_value-high at Down last ∙ ap high_of_property (lag_at (suc last) last position (omega arith)) in
      let from_lows : num_value at (minus (plus (low Down 0) counted) (high Down last)) ≡ number_at position value = num_value-minus at (plus (low Down 0) counted) (high Down last) ∙ ap₂ (λ a b. clamped (a -ℤ b)) lows old_high in
      let from_highs : num_value at (minus (plus (high Down 0) counted) (low Down last)) ≡ number_at position value = num_value-minus at (plus (high Down 0) counted) (low Down last) ∙ ap₂ (λ a b. clamped (a -ℤ b)) highs old_low in
      let early : cond_holds at (below index (literal (pos last))) ≡ int_lt (pos position) (pos last) = cond_holds-below at index (literal (pos last)) ∙ ap₂ int_lt (num_value-index at) (num_value-literal at (pos last)) in
      let upper : cond_holds at (at_most (minus (plus (low Down 0) counted) (high Down last)) (number_param 1)) ≡ int_le (number_at position value) most = cond_holds-at_most at _ (number_param 1) ∙ ap₂ int_le from_lows (num_value-number_param at 1) in
      let lower : cond_holds at (at_most (number_param 0) (minus (plus (high Down 0) counted) (low Down last))) ≡ int_le least (number_at position value) = cond_holds-at_most at (number_param 0) _ ∙ ap₂ int_le (num_value-number_param at 0) from_highs in
      cond_holds-either at (below index (literal (pos last))) _ ∙ ap₂ (λ p q. p || q) early (cond_holds-both at _ _ ∙ ap₂ (λ p q. p && q) upper lower)

  -- where a whole window ends at the position, this number is its count
  number_is : (position value : ℕ) (rest : List ℕ) → drop position values ≡ value ∷ rest → last ≤ position → number_at position value ≡ pos (count_in set (window_at position))
  number_is position value rest left late =
      let sum : clamped (pos (before position) +ℤ pos (bit_at set value)) ≡ pos (before (position + 1)) = sum_small _ _ _ (before_next position value rest left) (before_small (position + 1)) in
      let ends : position - last + suc last ≡ position + 1 = omega arith in
      let whole : before (position - last) + count_in set (window_at position) ≡ before (position + 1) = before_window (position - last) (suc last) ∙ ap before ends in
      ap (λ n. clamped (n -ℤ pos (before (position - last)))) sum ∙ difference_small _ _ _ whole (before_small (position + 1))

  -- each window that ends at the position or later has its count within the bounds
  abbrev EachFrom : ℕ → Type 0
  EachFrom position = (k : ℕ) → position ≤ k → k < length values → last ≤ k → AreAmong set least most (window_at k)

  -- the test holds exactly where the window that ends at the position, if any, has its count within the bounds
  tested_lies : (position value : ℕ) (rest : List ℕ) → drop position values ≡ value ∷ rest → IsTrue (test_passes all_of position value (state position) [] best) → last ≤ position → AreAmong set least most (window_at position)
  tested_lies position value rest left passes late =
      let early : int_lt (pos position) (pos last) ≡ false = grind (arith, ints) in
      let tested : (int_le (number_at position value) most && int_le least (number_at position value)) ≡ true = subst (λ b. (b || (int_le (number_at position value) most && int_le least (number_at position value))) ≡ true) early (sym (test_is position value) ∙ passes) in
      subst (LiesFrom least most) (number_is position value rest left late) (to_le _ _ (second_true _ _ tested), to_le _ _ (first_true _ _ tested))

  lies_tested : (position value : ℕ) (rest : List ℕ) → drop position values ≡ value ∷ rest → (last ≤ position → AreAmong set least most (window_at position)) → IsTrue (test_passes all_of position value (state position) [] best)
  lies_tested position value rest left lies = test_is position value ∙ either_way (cases_lt position last)
    where
      either_way : (position < last) ⊎ (last ≤ position) → (int_lt (pos position) (pos last) || (int_le (number_at position value) most && int_le least (number_at position value))) ≡ true
      either_way (inr late) =
          let both_lie : LiesFrom least most (number_at position value) = subst (LiesFrom least most) (sym (number_is position value rest left late)) (lies late) in
          later_true _ _ (both_true _ _ (from_le _ _ both_lie.1) (from_le _ _ both_lie.0))
      either_way (inl early) = earlier_true (int_lt (pos position) (pos last)) _ (grind (arith, ints))

  -- the run from a position on accepts exactly where each window that ends from there on passes
  run_each : {position : ℕ} {down : List Prop} {rest : List ℕ} → AcceptsFrom all_of best position down rest → down ≡ state position → drop position values ≡ rest → EachFrom position
  run_each at_end stands left k from below_end late = absurd (omega (arith, none_left _ values left))
  run_each (one_more {position} {down} {value} {values = rest} passes more) stands left k from below_end late =
      let tested = subst₂ (λ d u. IsTrue (test_passes all_of position value d u best)) stands (up_is (position + 1) rest) passes in
      let others = run_each more (ap (down_step all_of position value) stands ∙ down_is position value rest left) (next_left position values value rest left) in
      elim (cases_eq k position) [
        | inl same ↦ subst (λ p. AreAmong set least most (window_at p)) (sym same) (tested_lies position value rest left tested (subst (λ p. last ≤ p) same late))
        | inr other ↦ others k (omega arith) below_end late
      ]

  each_run : (rest : List ℕ) (position : ℕ) → drop position values ≡ rest → EachFrom position → AcceptsFrom all_of best position (state position) rest
  each_run [] position left each = at_end
  each_run (value ∷ rest) position left each =
      let within = left_within position values value rest left in
      let tested = lies_tested position value rest left (λ late. each position (omega arith) within late) in
      one_more (subst (λ u. IsTrue (test_passes all_of position value (state position) u best)) (sym (up_is (position + 1) rest)) tested)
      (subst (λ d. AcceptsFrom all_of best (position + 1) d rest) (sym (down_is position value rest left)) (each_run rest (position + 1) (next_left position values value rest left) (λ k from below_end late. each k (omega arith) below_end late)))

  -- windows by their last place and by their first
  by_first : EachFrom 0 → EachWindow (suc last) set least most values
  by_first each first within =
      let back : first + last - last ≡ first = omega arith in
      subst (λ p. AreAmong set least most (take (suc last) (drop p values))) back (each (first + last) (omega arith) (omega arith) (omega arith))

  by_last : EachWindow (suc last) set least most values → EachFrom 0
  by_last each k from below_end late = each (k - last) (omega arith)

  -- the exact run accepts the lists of which each window has its count within the bounds
  lagged_accepted : Accepts all_of best values ↔ EachWindow (suc last) set least most values
  lagged_accepted =
      let first : initial_values (lags_from 0 (suc last)) ≡ state 0 = first_state 0 (suc last) in (
        λ run. by_first (run_each run first refl),
        λ each. subst (λ d. AcceptsFrom all_of best 0 d values) (sym first) (each_run values 0 refl (by_last each)),
      )

-- `sequence` accepts the lists of which each window has so many values in the set
pub windows_accepted : (window set : ℕ) (least most best : ℤ) (values : List ℕ) → 1 ≤ window → window ≤ 32 → length values ≤ 256 → All (λ value. value < 128) values → Accepts (sequence_bound (length values) window set least most) best values ↔ EachWindow window set least most values
windows_accepted zero set least most best values some short few small = absurd (omega arith)
windows_accepted (suc last) set least most best values some short few small =
    let args : List Arg = argument.Num least ∷ argument.Num most ∷ argument.Set set ∷ [] in
    subst (λ k. Accepts (lagged (suc last) k args (length values)) best values ↔ EachWindow (suc last) set least most values) (sym (sub-one (suc last))) (lagged_accepted (length values) set last least most best values few)

-- the state of `sequence` after values
lagged_down : (n set last : ℕ) (least most : ℤ) (values : List ℕ) (few : length values ≤ 256) → exact_down (sequence_bound n (suc last) set least most) values ≡ state n set last least most (pos 0) values few (length values)
lagged_down n set last least most values few =
    let args : List Arg = argument.Num least ∷ argument.Num most ∷ argument.Set set ∷ [] in
    ap (λ k. exact_down (lagged (suc last) k args n) values) (sub-one (suc last)) ∙ down_at_end n set last least most (pos 0) values few

-- there are as many properties as the window says, and no up properties
pub windows_length : (n window set : ℕ) (least most : ℤ) (values : List ℕ) → 1 ≤ window → length values ≤ 256 → length (exact_down (sequence_bound n window set least most) values) ≡ window
windows_length n zero set least most values some few = absurd (omega arith)
windows_length n (suc last) set least most values some few =
    ap (λ down. length down) (lagged_down n set last least most values few)
    ∙ (length-map (lags n set last least most (pos 0) values few (suc last) (length values)) (λ (count : ℕ). property.Pair (pos count) (pos count))
    ∙ lags_length n set last least most (pos 0) values few (suc last) (length values))

pub windows_up : (n window set : ℕ) (least most : ℤ) (position : ℕ) (values : List ℕ) → exact_up (sequence_bound n window set least most) position values ≡ []
windows_up n window set least most position [] = refl
windows_up n window set least most position (value ∷ values) = refl

-- its state after values has at each place how many of them but the latest so many are in the set
pub windows_down : (n window set : ℕ) (least most : ℤ) (values : List ℕ) (place : ℕ) → place < window → length values ≤ 256 → slice_get (exact_down (sequence_bound n window set least most) values) place ≡ Some (property.Pair (pos (count_in set (take (length values - place) values))) (pos (count_in set (take (length values - place) values))))
windows_down n zero set least most values place within few = absurd (omega arith)
windows_down n (suc last) set least most values place within few =
    ap (λ down. slice_get down place) (lagged_down n set last least most values few) ∙ lag_at n set last least most (pos 0) values few (suc last) place (length values) within
