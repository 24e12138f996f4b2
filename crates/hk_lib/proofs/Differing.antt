-- The exact run of `alldifferent`: its states are the sets of the earlier and of the later values, so that it accepts
-- the lists of which no value is in the set of the earlier ones.
use Rattle.std.proofs.Common.{◌≡◌, ◌≢◌, ◌↔◌, ℕ, ℤ, pos, ◌+◌, ◌^◌, ◌<◌, ◌≤◌, ◌+ℤ◌, ◌-ℤ◌, true, not, ◌&&◌, ◌==◌, int_le, bit_or, count_ones, slice_get, zero, suc, List, [], ◌∷◌, length, All, AllPairs, arith, refl, sym, ap, ap₂, ◌∙◌, subst, subst₂}
use Rattle.std.proofs.lemmas.Bool.Decides.{nat_tests}
use Rattle.std.proofs.lemmas.Int.{ints, clamps}
use Rattle.std.proofs.lemmas.List.Kept.{AllPairs-cons}
use Rattle.std.proofs.lemmas.Nat.Bits.{bit_at_or, bit_at-pow_same, bit_at-pow_other, bit_at-lt, bit_at-zero, same_from_bits}
use Rattle.std.specs.Int.Bits.{or_zero_l, or_zero_r}
use Rattle.std.specs.Int.{bit_at}
use Rattle.hk_kinds.specs.Limits.{clamped}
use Rattle.hk_kinds.specs.NumberLattices.{first_true, both_true}
use Rattle.hk_kinds.specs.declared.properties.Prop.{Prop}
use Rattle.hk_kinds.specs.declared.properties.Prop.TheVariants as property
use Rattle.hk_spec.proofs.NodeValues.{num_value-literal, num_value-index, num_value-positions, num_value-plus, num_value-minus, num_value-card, set_value-one, set_value-bits, set_value-union, cond_holds-lacks, cond_holds-both, cond_holds-at_least}
use Rattle.hk_spec.specs.Library.{alldifferent_bound, with_value}
use Rattle.hk_spec.specs.Meanings.{AreDifferent, set_of}
use Rattle.hk_spec.specs.Runs.{Accepts, AcceptsFrom, at_end, one_more, exact_down, exact_down_from, exact_up}
use Rattle.hk_kinds.specs.Views.{set_of_property}
use Rattle.hk_spec.specs.Settings.{Setting, state_of}
use Rattle.hk_spec.specs.Specifications.{BoundSpecification}
use Rattle.hk_spec.specs.Steps.{down_setting, up_setting, test_setting, down_step, up_step, test_passes}
use Rattle.hk_spec.specs.Trees.{literal, index, positions, card, plus, minus, one, bits, lacks, both, at_least}
use Rattle.hk_spec.specs.Values.{num_value, set_value, cond_holds}
use Rattle.hk_spec.specs.declared.expressions.NumExpr.{NumExpr}
use Rattle.hk_spec.specs.declared.expressions.Side.{Side}
use Rattle.hk_spec.specs.declared.expressions.Side.TheVariants.{Down, Up}
use Rattle.hk_lib.proofs.Ones.{ones_none, ones_with}

-- no two of the values are equal, and none of them is in the set
data AreApart : ℕ → List ℕ → Type 0 where
  none_left : {set : ℕ} → AreApart set []
  one_apart : {set value : ℕ} {values : List ℕ} → bit_at set value ≡ 0 → AreApart (bit_or set (2 ^ value)) values → AreApart set (value ∷ values)

-- a set with a value has it, and all that it had
has_new : (set v : ℕ) → bit_at (bit_or set (2 ^ v)) v ≡ 1
has_new set v = omega (arith, bit_at_or set (2 ^ v) v, bit_at-pow_same v, bit_at-lt set v)

has_old : (set v w : ℕ) → bit_at set w ≡ 1 → bit_at (bit_or set (2 ^ v)) w ≡ 1
has_old set v w has = omega (arith, bit_at_or set (2 ^ v) w, bit_at-lt (2 ^ v) w)

-- a value may be added to either of two sets that are put together
with_later : (set v later : ℕ) → bit_or (bit_or set (2 ^ v)) later ≡ bit_or set (bit_or later (2 ^ v))
with_later set v later = same_from_bits _ _ (λ i. omega (arith, bit_at_or (bit_or set (2 ^ v)) later i, bit_at_or set (2 ^ v) i, bit_at_or set (bit_or later (2 ^ v)) i, bit_at_or later (2 ^ v) i))

-- what a set with a value lacks, the set lacks; and what the set lacks, it lacks, but for that value
lacked : (set v w : ℕ) → bit_at (bit_or set (2 ^ v)) w ≡ 0 → bit_at set w ≡ 0
lacked set v w lacks_it = omega (arith, bit_at_or set (2 ^ v) w)

still_lacks : (set v w : ℕ) → w ≢ v → bit_at set w ≡ 0 → bit_at (bit_or set (2 ^ v)) w ≡ 0
still_lacks set v w other lacks_it = omega (arith, bit_at_or set (2 ^ v) w, bit_at-pow_other v w other)

-- what a set has isn't what it lacks
differs : (set v w : ℕ) → bit_at set v ≡ 1 → bit_at set w ≡ 0 → v ≢ w
differs set v w has lacks_it same =
    let both_one : bit_at set w ≡ 1 = subst (λ x. bit_at set x ≡ 1) same has in
    absurd (omega arith)

-- what is in the set is none of the values apart from it
not_later : {set : ℕ} {values : List ℕ} (w : ℕ) → AreApart set values → bit_at set w ≡ 1 → bit_at (set_of values) w ≡ 0
not_later w none_left has = bit_at-zero w
not_later w (one_apart {set} {value} {values} fresh rest) has = still_lacks (set_of values) value w (differs set w value has fresh) (not_later w rest (has_old set value w has))

-- the set of values that are apart has as many values as the list
ones_later : {set : ℕ} {values : List ℕ} → AreApart set values → count_ones (set_of values) ≡ length values
ones_later none_left = ones_none
ones_later (one_apart {set} {value} {values} fresh rest) =
    let more = ones_with value (set_of values) (not_later value rest (has_new set value)) in
    let fewer = ones_later rest in
    omega arith

-- values are apart from a set exactly where it lacks all of them and no two of them are equal
apart_lacks : {set : ℕ} {values : List ℕ} → AreApart set values → All (λ w. bit_at set w ≡ 0) values
apart_lacks none_left k d below = absurd (omega arith)
apart_lacks (one_apart fresh rest) zero d below = fresh
apart_lacks (one_apart {set} {value} fresh rest) (suc k) d below = lacked set value _ (apart_lacks rest k d (omega arith))

apart_differs : {set : ℕ} {values : List ℕ} → AreApart set values → AllPairs (λ x y. x ≢ y) values
apart_differs none_left = λ i j d before below. absurd (omega arith)
apart_differs (one_apart {set} {value} {values} fresh rest) = AllPairs-cons (λ x y. x ≢ y) value values (λ k d below. differs (bit_or set (2 ^ value)) value _ (has_new set value) (apart_lacks rest k d below)) (apart_differs rest)

differs_apart : (set : ℕ) (values : List ℕ) → All (λ w. bit_at set w ≡ 0) values → AllPairs (λ x y. x ≢ y) values → AreApart set values
differs_apart set [] lacks_them different = none_left
differs_apart set (value ∷ values) lacks_them different =
    one_apart (lacks_them 0 0 (omega arith)) (differs_apart (bit_or set (2 ^ value)) values
    (λ k d below. still_lacks set value _ (λ same. different 0 (suc k) d (omega arith) (omega arith) (sym same)) (lacks_them (suc k) d (omega arith)))
    (λ i j d before below. different (suc i) (suc j) d (omega arith) (omega arith)))

-- the state of both properties of a side
abbrev twice : ℕ → List Prop
twice set = property.Bits set ∷ property.Bits set ∷ []

-- the parts of the steps and of the test, where the set of the property is known
with_value_is : (at : Setting) (side : Side) (place set : ℕ) → set_of_property (slice_get (state_of at side) place) ≡ set → set_value at (with_value (bits side place)) ≡ bit_or set (2 ^ at.value)
with_value_is at side place set stands = set_value-union at (bits side place) one ∙ ap₂ bit_or (set_value-bits at side place ∙ stands) (set_value-one at)

lacks_is : (at : Setting) (side : Side) (place set : ℕ) → set_of_property (slice_get (state_of at side) place) ≡ set → cond_holds at (lacks (bits side place)) ≡ not (bit_at set at.value == 1)
lacks_is at side place set stands = cond_holds-lacks at (bits side place) ∙ ap (λ s. not (bit_at s at.value == 1)) (set_value-bits at side place ∙ stands)

enough_is : (at : Setting) (side : Side) (place set : ℕ) (e : NumExpr) (n : ℤ) → set_of_property (slice_get (state_of at side) place) ≡ set → num_value at e ≡ n → cond_holds at (at_least (card (with_value (bits side place))) e) ≡ int_le n (pos (count_ones (bit_or set (2 ^ at.value))))
enough_is at side place set e n stands bound = cond_holds-at_least at (card (with_value (bits side place))) e ∙ ap₂ int_le bound (num_value-card at (with_value (bits side place)) ∙ ap (λ s. pos (count_ones s)) (with_value_is at side place set stands))

-- the test of a bit
lacks_test : (set v : ℕ) → not (bit_at set v == 1) ≡ true → bit_at set v ≡ 0
lacks_test set v h =
    let small = bit_at-lt set v in
    grind (arith, nat_tests)

passes_lacks : (set v : ℕ) → bit_at set v ≡ 0 → not (bit_at set v == 1) ≡ true
passes_lacks set v h = ap (λ n. not (n == 1)) h

-- the count reaches the bound, which no clamp changes
reaches : (n : ℤ) (m count : ℕ) → n ≡ pos m → m ≤ 256 → m ≤ count → int_le (clamped n) (pos count) ≡ true
reaches n m count same few enough =
    let whole : clamped n ≡ pos m = omega (arith, ints, clamps) in
    ap (λ z. int_le z (pos count)) whole ∙ grind (arith, ints)

module _ (n : ℕ) (best : ℤ) where
  abbrev all_of : BoundSpecification
  all_of = alldifferent_bound n

  -- a step adds the value to both sets
  down_is : (position value set : ℕ) → down_step all_of position value (twice set) ≡ twice (bit_or set (2 ^ value))
  down_is position value set =
      let at = down_setting all_of position value (twice set) in
      ap₂ (λ a b. property.Bits a ∷ property.Bits b ∷ []) (with_value_is at Down 0 set refl) (with_value_is at Down 1 set refl)

  up_once : (position value set : ℕ) → up_step all_of position value (twice set) ≡ twice (bit_or set (2 ^ value))
  up_once position value set =
      let at = up_setting all_of position value (twice set) in
      ap₂ (λ a b. property.Bits a ∷ property.Bits b ∷ []) (with_value_is at Up 0 set refl) (with_value_is at Up 1 set refl)

  -- the down state after values is the set before them with them
  down_from : (position set : ℕ) (values : List ℕ) → exact_down_from all_of position (twice set) values ≡ twice (bit_or set (set_of values))
  down_from position set [] = ap twice (sym (or_zero_r set))
  down_from position set (value ∷ values) = ap (λ d. exact_down_from all_of (position + 1) d values) (down_is position value set) ∙ (down_from (position + 1) (bit_or set (2 ^ value)) values ∙ ap twice (with_later set value (set_of values)))

  pub down_at_end : (values : List ℕ) → exact_down all_of values ≡ twice (set_of values)
  down_at_end values = down_from 0 0 values ∙ ap twice (or_zero_l (set_of values))

  -- the up state is the set of the later values
  pub up_is : (position : ℕ) (values : List ℕ) → exact_up all_of position values ≡ twice (set_of values)
  up_is position [] = refl
  up_is position (value ∷ values) = ap (up_step all_of position value) (up_is (position + 1) values) ∙ up_once position value (set_of values)

  -- the test by its numbers and sets
  test_is : (position value set later : ℕ) → test_passes all_of position value (twice set) (twice later) best ≡ ((not (bit_at set value == 1) && not (bit_at later value == 1)) && (int_le (clamped (pos position +ℤ pos 1)) (pos (count_ones (bit_or set (2 ^ value)))) && int_le (clamped (pos n -ℤ pos position)) (pos (count_ones (bit_or later (2 ^ value))))))
  test_is position value set later =
      let at = test_setting all_of position value (twice set) (twice later) best in
      let next : num_value at (plus index (literal (pos 1))) ≡ clamped (pos position +ℤ pos 1) = num_value-plus at index (literal (pos 1)) ∙ ap₂ (λ a b. clamped (a +ℤ b)) (num_value-index at) (num_value-literal at (pos 1)) in
      let left : num_value at (minus positions index) ≡ clamped (pos n -ℤ pos position) = num_value-minus at positions index ∙ ap₂ (λ a b. clamped (a -ℤ b)) (num_value-positions at) (num_value-index at) in
      cond_holds-both at (both (lacks (bits Down 1)) (lacks (bits Up 1))) _ ∙ ap₂ (λ p q. p && q)
      (cond_holds-both at (lacks (bits Down 1)) (lacks (bits Up 1)) ∙ ap₂ (λ p q. p && q) (lacks_is at Down 1 set refl) (lacks_is at Up 1 later refl))
      (cond_holds-both at (at_least (card (with_value (bits Down 0))) _) _ ∙ ap₂ (λ p q. p && q) (enough_is at Down 0 set _ _ refl next) (enough_is at Up 0 later _ _ refl left))

  -- an accepted list is apart from the set of the earlier values
  run_apart : {position : ℕ} {down : List Prop} {values : List ℕ} → AcceptsFrom all_of best position down values → (set : ℕ) → down ≡ twice set → AreApart set values
  run_apart at_end set stands = none_left
  run_apart (one_more {position} {down} {value} {values} passes rest) set stands =
      let tested : test_passes all_of position value (twice set) (twice (set_of values)) best ≡ true = subst₂ (λ d u. test_passes all_of position value d u best ≡ true) stands (up_is (position + 1) values) passes in
      let lacks_it = first_true _ _ (first_true _ _ (sym (test_is position value set (set_of values)) ∙ tested)) in
      one_apart (lacks_test set value lacks_it) (run_apart rest (bit_or set (2 ^ value)) (ap (down_step all_of position value) stands ∙ down_is position value set))

  -- a list that is apart from the set of the earlier values is accepted
  apart_run : {set : ℕ} {values : List ℕ} → AreApart set values → (position : ℕ) → count_ones set ≡ position → position + length values ≡ n → n ≤ 256 → AcceptsFrom all_of best position (twice set) values
  apart_run none_left position counted whole few = at_end
  apart_run (one_apart {set} {value} {values} fresh rest) position counted whole few =
      let later : bit_at (set_of values) value ≡ 0 = not_later value rest (has_new set value) in
      let earlier_ones : count_ones (bit_or set (2 ^ value)) ≡ position + 1 = ones_with value set fresh ∙ ap (λ k. k + 1) counted in
      let later_ones = ones_with value (set_of values) later in
      let those = ones_later rest in
      let lack : (not (bit_at set value == 1) && not (bit_at (set_of values) value == 1)) ≡ true = both_true _ _ (passes_lacks set value fresh) (passes_lacks (set_of values) value later) in
      let next = reaches (pos position +ℤ pos 1) (position + 1) (count_ones (bit_or set (2 ^ value))) (omega (arith, ints)) (omega arith) (omega arith) in
      let left = reaches (pos n -ℤ pos position) (length values + 1) (count_ones (bit_or (set_of values) (2 ^ value))) (omega (arith, ints)) (omega arith) (omega arith) in
      let tested : test_passes all_of position value (twice set) (twice (set_of values)) best ≡ true = test_is position value set (set_of values) ∙ both_true _ _ lack (both_true _ _ next left) in
      one_more (subst (λ u. test_passes all_of position value (twice set) u best ≡ true) (sym (up_is (position + 1) values)) tested)
      (subst (λ d. AcceptsFrom all_of best (position + 1) d values) (sym (down_is position value set)) (apart_run rest (position + 1) earlier_ones (omega arith) few))

-- `alldifferent` accepts the lists of values of which no two are equal
pub differing_accepted : (best : ℤ) (values : List ℕ) → length values ≤ 256 → All (λ value. value < 128) values → Accepts (alldifferent_bound (length values)) best values ↔ AreDifferent values
differing_accepted best values few small = (
  λ run. apart_differs (run_apart (length values) best run 0 refl),
  λ different. apart_run (length values) best (differs_apart 0 values (λ k d below. bit_at-zero _) different) 0 ones_none (omega arith) few,
)
