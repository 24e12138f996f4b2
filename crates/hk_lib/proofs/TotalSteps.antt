-- Specifications of one sum, of Interval and of Min properties: their steps and tests by the number that they add.
use Rattle.std.proofs.Common.{◌≡◌, ◌↔◌, ℕ, ℤ, Bool, true, ◌&&◌, ◌+ℤ◌, ◌<◌, ◌<ℤ◌, int_le, int_lt, List, [], ◌∷◌, IsTrue, arith, ap, ap₂, sym, refl, ◌∙◌}
use Rattle.std.proofs.lemmas.Int.{ints}
use Rattle.hk_kinds.proofs.PropertyLaws.{to_le, from_le}
use Rattle.hk_kinds.specs.Limits.{clamped}
use Rattle.hk_kinds.specs.NumberLattices.{first_true, second_true, both_true}
use Rattle.hk_kinds.specs.declared.properties.Prop.{Prop}
use Rattle.hk_kinds.specs.declared.properties.Prop.TheVariants as property
use Rattle.hk_spec.proofs.NodeValues.{num_value-plus, num_value-low, num_value-high, num_value-number, num_value-best, cond_holds-both, cond_holds-at_most, cond_holds-below}
use Rattle.hk_spec.specs.Library.{interval_named, min_named, step_by, total_test}
use Rattle.hk_spec.specs.Meanings.{LiesFrom}
use Rattle.hk_spec.specs.Settings.{Setting}
use Rattle.hk_spec.specs.Specifications.{BoundSpecification}
use Rattle.hk_spec.specs.Steps.{down_setting, up_setting, test_setting}
use Rattle.hk_spec.specs.Trees.{best as best_number, number, low, high, plus, at_most, below}
use Rattle.hk_spec.specs.Values.{num_value, cond_holds}
use Rattle.hk_spec.specs.declared.arguments.Arg.{Arg}
use Rattle.hk_spec.specs.declared.expressions.NumExpr.{NumExpr}
use Rattle.hk_spec.specs.declared.expressions.Side.TheVariants.{Down, Up}
use Rattle.hk_spec.specs.declared.parts.Param.{Param}
use Rattle.hk_spec.specs.declared.parts.StepExpr.TheVariants as step
use Rattle.hk_lib.proofs.Totals.{IsSumming, IsOfWeights}

-- a sum of two and of three expressions, by their numbers
plus_is : (at : Setting) (a e : NumExpr) (m w : ℤ) → num_value at a ≡ m → num_value at e ≡ w → num_value at (plus a e) ≡ clamped (m +ℤ w)
plus_is at a e m w h k = num_value-plus at a e ∙ ap₂ (λ x y. clamped (x +ℤ y)) h k

both_plus : (at : Setting) (a e b : NumExpr) (m w n : ℤ) → num_value at a ≡ m → num_value at e ≡ w → num_value at b ≡ n → num_value at (plus (plus a e) b) ≡ clamped (clamped (m +ℤ w) +ℤ n)
both_plus at a e b m w n h k l = plus_is at (plus a e) b (clamped (m +ℤ w)) n (plus_is at a e m w h k) l

-- what the test of a lesser number says
to_less : (a b : ℤ) → int_lt a b ≡ true → a <ℤ b
to_less a b h = grind (arith, ints)

from_less : (a b : ℤ) → a <ℤ b → int_lt a b ≡ true
from_less a b h = grind (arith, ints)

-- the two tests of a total are that it lies from the least to the most
lies_test : (least most n : ℤ) → IsTrue (int_le n most && int_le least n) ↔ LiesFrom least most n
lies_test least most n = (
  λ h. (to_le least n (second_true _ _ h), to_le n most (first_true _ _ h)),
  λ h. both_true _ _ (from_le n most h.1) (from_le least n h.0),
)

-- the test of the objective is that the number is below the bound
less_test : (n best : ℤ) → IsTrue (int_lt n best) ↔ (n <ℤ best)
less_test n best = (to_less n best, from_less n best)

-- a test decides what an equal one does
decides_same : {a b : Bool} {P : Type 0} → a ≡ b → IsTrue b ↔ P → IsTrue a ↔ P
decides_same same h = (λ holds. h.0 (sym same ∙ holds), λ p. same ∙ h.1 p)

-- the test of a total, by the numbers of its parts
total_test_is : (at : Setting) (e least most : NumExpr) (before w after from to : ℤ) → num_value at (low Down 0) ≡ before → num_value at (high Down 0) ≡ before → num_value at (low Up 0) ≡ after → num_value at (high Up 0) ≡ after → num_value at e ≡ w → num_value at least ≡ from → num_value at most ≡ to → IsTrue (cond_holds at (total_test e least most)) ↔ LiesFrom from to (clamped (clamped (before +ℤ w) +ℤ after))
total_test_is at e least most before w after from to d d' u u' one from_is to_is =
    let sum = clamped (clamped (before +ℤ w) +ℤ after) in
    let lows : num_value at (plus (plus (low Down 0) e) (low Up 0)) ≡ sum = both_plus at (low Down 0) e (low Up 0) before w after d one u in
    let highs : num_value at (plus (plus (high Down 0) e) (high Up 0)) ≡ sum = both_plus at (high Down 0) e (high Up 0) before w after d' one u' in
    let first : cond_holds at (at_most (plus (plus (low Down 0) e) (low Up 0)) most) ≡ int_le sum to = cond_holds-at_most at _ most ∙ ap₂ int_le lows to_is in
    let second : cond_holds at (at_most least (plus (plus (high Down 0) e) (high Up 0))) ≡ int_le from sum = cond_holds-at_most at least _ ∙ ap₂ int_le from_is highs in
    let test : cond_holds at (total_test e least most) ≡ (int_le sum to && int_le from sum) = cond_holds-both at _ _ ∙ ap₂ (λ x y. x && y) first second in
    decides_same test (lies_test from to sum)

-- the test that a total is below the bound
below_test_is : (at : Setting) (e : NumExpr) (before w after best : ℤ) → num_value at (number Down 0) ≡ before → num_value at (number Up 0) ≡ after → num_value at best_number ≡ best → num_value at e ≡ w → IsTrue (cond_holds at (below (plus (plus (number Down 0) e) (number Up 0)) best_number)) ↔ (clamped (clamped (before +ℤ w) +ℤ after) <ℤ best)
below_test_is at e before w after best d u bound one =
    let sum = clamped (clamped (before +ℤ w) +ℤ after) in
    let sums : num_value at (plus (plus (number Down 0) e) (number Up 0)) ≡ sum = both_plus at (number Down 0) e (number Up 0) before w after d one u in
    let test : cond_holds at (below (plus (plus (number Down 0) e) (number Up 0)) best_number) ≡ int_lt sum best = cond_holds-below at _ best_number ∙ ap₂ int_lt sums bound in
    decides_same test (less_test sum best)

-- the specification of one sum in Intervals, and of one in Min properties
abbrev pub interval_sum : List ℕ → List Param → List ℕ → List ℕ → NumExpr → NumExpr → NumExpr → List Arg → ℕ → BoundSpecification
interval_sum name params down up e least most args n = record {
  spec = record {
    name = name;
    params = params;
    down = interval_named down ∷ [];
    up = interval_named up ∷ [];
    test = total_test e least most;
    down_step = step_by Down e ∷ [];
    up_step = step_by Up e ∷ [];
  };
  args = args;
  len = n;
}

abbrev pub min_sum : List ℕ → List Param → List ℕ → List ℕ → NumExpr → List Arg → ℕ → BoundSpecification
min_sum name params down up e args n = record {
  spec = record {
    name = name;
    params = params;
    down = min_named down ∷ [];
    up = min_named up ∷ [];
    test = below (plus (plus (number Down 0) e) (number Up 0)) best_number;
    down_step = step.Num (plus (number Down 0) e) ∷ [];
    up_step = step.Num (plus (number Up 0) e) ∷ [];
  };
  args = args;
  len = n;
}

-- the state of one exact Interval, and of one Min property
abbrev pub interval_state : ℤ → List Prop
interval_state n = property.Pair n n ∷ []

abbrev pub min_state : ℤ → List Prop
min_state n = property.Num n ∷ []

-- an expression has the number of its arguments alone
abbrev pub HasNumber : List Arg → NumExpr → ℤ → Type 0
HasNumber args e n = (at : Setting) → at.args ≡ args → num_value at e ≡ n

-- an expression has the weight of the position and the value
abbrev pub HasWeight : List Arg → NumExpr → (ℕ → ℕ → ℤ) → Type 0
HasWeight args e weight = (at : Setting) → at.args ≡ args → at.value < 128 → num_value at e ≡ weight at.position at.value

-- an Interval of two equal numbers is an exact one
pairs : (m n w : ℤ) → m ≡ w → n ≡ w → (property.Pair m n ∷ []) ≡ interval_state w
pairs m n w h k = ap₂ (λ x y. property.Pair x y ∷ []) h k

-- the specification of one sum in Intervals sums the weights of its expression, and asks that the total lies in bounds
pub interval_sums : (name : List ℕ) (params : List Param) (down up : List ℕ) (e least most : NumExpr) (args : List Arg) (n : ℕ) (from to best : ℤ) (weight : ℕ → ℕ → ℤ) → ((position value : ℕ) → value < 128 → IsOfWeights 1 (weight position value)) → HasWeight args e weight → HasNumber args least from → HasNumber args most to → IsSumming (interval_sum name params down up e least most args n) best weight interval_state (LiesFrom from to)
interval_sums name params down up e least most args n from to best weight weights one from_is to_is =
    let b : BoundSpecification = interval_sum name params down up e least most args n in
    record {
      weights = weights;
      first_down = refl;
      first_up = refl;
      down_steps = λ position value sum small.
          let at : Setting = down_setting b position value (interval_state sum) in
          pairs _ _ _ (plus_is at (low Down 0) e sum _ (num_value-low at Down 0) (one at refl small)) (plus_is at (high Down 0) e sum _ (num_value-high at Down 0) (one at refl small));
      up_steps = λ position value sum small.
          let at : Setting = up_setting b position value (interval_state sum) in
          pairs _ _ _ (plus_is at (low Up 0) e sum _ (num_value-low at Up 0) (one at refl small)) (plus_is at (high Up 0) e sum _ (num_value-high at Up 0) (one at refl small));
      tests = λ position value before after small.
          let at : Setting = test_setting b position value (interval_state before) (interval_state after) best in
          total_test_is at e least most before (weight position value) after from to (num_value-low at Down 0) (num_value-high at Down 0) (num_value-low at Up 0) (num_value-high at Up 0) (one at refl small) (from_is at refl) (to_is at refl);
    }

-- the specification of one sum in Min properties sums these too, and asks that the total is below the bound
pub min_sums : (name : List ℕ) (params : List Param) (down up : List ℕ) (e : NumExpr) (args : List Arg) (n : ℕ) (best : ℤ) (weight : ℕ → ℕ → ℤ) → ((position value : ℕ) → value < 128 → IsOfWeights 1 (weight position value)) → HasWeight args e weight → IsSumming (min_sum name params down up e args n) best weight min_state (λ sum. sum <ℤ best)
min_sums name params down up e args n best weight weights one =
    let b : BoundSpecification = min_sum name params down up e args n in
    record {
      weights = weights;
      first_down = refl;
      first_up = refl;
      down_steps = λ position value sum small.
          let at : Setting = down_setting b position value (min_state sum) in
          ap min_state (plus_is at (number Down 0) e sum _ (num_value-number at Down 0) (one at refl small));
      up_steps = λ position value sum small.
          let at : Setting = up_setting b position value (min_state sum) in
          ap min_state (plus_is at (number Up 0) e sum _ (num_value-number at Up 0) (one at refl small));
      tests = λ position value before after small.
          let at : Setting = test_setting b position value (min_state before) (min_state after) best in
          below_test_is at e before (weight position value) after best (num_value-number at Down 0) (num_value-number at Up 0) (num_value-best at) (one at refl small);
    }
