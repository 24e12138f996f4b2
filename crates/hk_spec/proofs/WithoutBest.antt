-- What does not name the bound on the cost has the same value whatever the bound is.
use Rattle.std.proofs.Common.{◌≡◌, ℕ, ℤ, pos, Bool, true, false, ◌&&◌, ◌||◌, not, ◌==◌, ◌↔◌, List, ◌+ℤ◌, ◌-ℤ◌, ◌*ℤ◌, neg_ℤ, int_le, int_lt, int_eq, bit_and, count_ones, slice_get, ap, ap₂, refl, sym, ◌∙◌, subst, true≢false, IsTrue}
use Rattle.std.specs.Int.{bit_at, int_max, int_min}
use Rattle.hk_kinds.specs.Limits.{clamped}
use Rattle.hk_kinds.specs.NumberLattices.{first_true, second_true}
use Rattle.hk_kinds.specs.Views.{number_of_property, low_of_property, high_of_property, set_of_property}
use Rattle.hk_kinds.specs.declared.properties.Prop.{Prop}
use Rattle.hk_spec.specs.Runs.{Accepts, AcceptsFrom, at_end, one_more}
use Rattle.hk_spec.specs.Scopes.{Scope, num_fits, num_fits_step, cond_fits, cond_fits_step, is_good_cond}
use Rattle.hk_spec.specs.Settings.{Setting, state_of}
use Rattle.hk_spec.specs.Specifications.{BoundSpecification, IsWithoutBest, test_scope}
use Rattle.hk_spec.specs.Steps.{test_passes, test_setting}
use Rattle.hk_spec.specs.Values.{num_value, num_step, set_value, set_step, cond_holds, cond_step}
use Rattle.hk_spec.specs.declared.expressions.Side.{Side}
use Rattle.hk_spec.specs.declared.expressions.Side.TheVariants.{Down, Up}
use Rattle.hk_spec.specs.declared.expressions.NumExpr.{NumExpr}
use Rattle.hk_spec.specs.declared.expressions.NumExpr.TheOpen.{NumExpr-F}
use Rattle.hk_spec.specs.declared.expressions.NumExpr.TheViews.{roll-NumExpr}
use Rattle.hk_spec.specs.declared.expressions.NumExpr.TheFolds.{ind-NumExpr, fold-roll-NumExpr, map-NumExpr}
use Rattle.hk_spec.specs.declared.expressions.SetExpr.{SetExpr}
use Rattle.hk_spec.specs.declared.expressions.SetExpr.TheOpen.{SetExpr-F}
use Rattle.hk_spec.specs.declared.expressions.SetExpr.TheFolds.{fold-SetExpr}
use Rattle.hk_spec.specs.declared.expressions.Cond.{Cond}
use Rattle.hk_spec.specs.declared.expressions.Cond.TheOpen.{Cond-F}
use Rattle.hk_spec.specs.declared.expressions.Cond.TheViews.{roll-Cond}
use Rattle.hk_spec.specs.declared.expressions.Cond.TheFolds.{ind-Cond, fold-roll-Cond, map-Cond}

module _ (at : Setting) (best : ℤ) where
  -- the setting under this bound
  abbrev under : Setting
  under = record at { best = best }

  same_state : (side : Side) → state_of under side ≡ state_of at side
  same_state Down = refl
  same_state Up = refl

  same_set_step : (e : SetExpr-F ℕ) → set_step under e ≡ set_step at e
  same_set_step (SetExpr-F.Lit set) = refl
  same_set_step SetExpr-F.One = refl
  same_set_step (SetExpr-F.Param place) = refl
  same_set_step (SetExpr-F.Bits side place) = ap (λ state. set_of_property (slice_get state place)) (same_state side)
  same_set_step (SetExpr-F.Union a b) = refl
  same_set_step (SetExpr-F.Common a b) = refl
  same_set_step (SetExpr-F.Without a b) = refl

  same_set_steps : set_step under ≡ set_step at
  same_set_steps = λ i e. same_set_step e i

  same_set : (e : SetExpr) → set_value under e ≡ set_value at e
  same_set e = ap (λ step. fold-SetExpr ℕ step e) same_set_steps

module _ (scope : Scope) (without : scope.best ≡ false) (at : Setting) (best : ℤ) where
  abbrev SameNum : NumExpr → Type 0
  SameNum e = num_fits scope e ≡ true → num_value (under at best) e ≡ num_value at e

  num_layer : {X : Type 0} (tree : X → NumExpr) → ((x : X) → SameNum (tree x)) → (y : NumExpr-F X) → num_fits_step scope (map-NumExpr NumExpr Bool (num_fits scope) (map-NumExpr X NumExpr tree y)) ≡ true → num_step (under at best) (map-NumExpr NumExpr ℤ (num_value (under at best)) (map-NumExpr X NumExpr tree y)) ≡ num_step at (map-NumExpr NumExpr ℤ (num_value at) (map-NumExpr X NumExpr tree y))
  num_layer tree same (NumExpr-F.Lit n) fits = refl
  num_layer tree same NumExpr-F.Value fits = refl
  num_layer tree same NumExpr-F.Index fits = refl
  num_layer tree same NumExpr-F.Length fits = refl
  num_layer tree same NumExpr-F.Best fits = absurd (true≢false (sym fits ∙ without))
  num_layer tree same (NumExpr-F.Param place) fits = refl
  num_layer tree same (NumExpr-F.Item place) fits = refl
  num_layer tree same (NumExpr-F.Number side place) fits = ap (λ state. number_of_property (slice_get state place)) (same_state at best side)
  num_layer tree same (NumExpr-F.Low side place) fits = ap (λ state. low_of_property (slice_get state place)) (same_state at best side)
  num_layer tree same (NumExpr-F.High side place) fits = ap (λ state. high_of_property (slice_get state place)) (same_state at best side)
  num_layer tree same (NumExpr-F.Card set) fits = ap (λ s. pos (count_ones s)) (same_set at best set)
  num_layer tree same (NumExpr-F.Add a b) fits = ap₂ (λ m n. clamped (m +ℤ n)) (same a (first_true _ _ fits)) (same b (second_true _ _ fits))
  num_layer tree same (NumExpr-F.Least a b) fits = ap₂ (λ m n. clamped (int_min m n)) (same a (first_true _ _ fits)) (same b (second_true _ _ fits))
  num_layer tree same (NumExpr-F.Most a b) fits = ap₂ (λ m n. clamped (int_max m n)) (same a (first_true _ _ fits)) (same b (second_true _ _ fits))
  num_layer tree same (NumExpr-F.Minus a b) fits = ap₂ (λ m n. clamped (m -ℤ n)) (same a (first_true _ _ fits)) (same b (second_true _ _ fits))
  num_layer tree same (NumExpr-F.Negative a) fits = ap (λ n. clamped (neg_ℤ n)) (same a fits)
  num_layer tree same (NumExpr-F.Times a b) fits = ap₂ (λ m n. clamped (m *ℤ n)) (same a (first_true _ _ fits)) (same b (second_true _ _ fits))

  num_rolled : (x : NumExpr-F NumExpr) → (num_fits_step scope (map-NumExpr NumExpr Bool (num_fits scope) x) ≡ true → num_step (under at best) (map-NumExpr NumExpr ℤ (num_value (under at best)) x) ≡ num_step at (map-NumExpr NumExpr ℤ (num_value at) x)) → SameNum (roll-NumExpr x)
  num_rolled x layer = λ fits. fold-roll-NumExpr ℤ (num_step (under at best)) x ∙ (layer (sym (fold-roll-NumExpr Bool (num_fits_step scope) x) ∙ fits) ∙ sym (fold-roll-NumExpr ℤ (num_step at) x))

  same_num : (e : NumExpr) → SameNum e
  same_num = ind-NumExpr SameNum (λ x y same. num_rolled x (subst (λ z. num_fits_step scope (map-NumExpr NumExpr Bool (num_fits scope) z) ≡ true → num_step (under at best) (map-NumExpr NumExpr ℤ (num_value (under at best)) z) ≡ num_step at (map-NumExpr NumExpr ℤ (num_value at) z)) same (num_layer (λ s. s.0) (λ s. s.1) y)))

  -- a comparison of two numbers, and one of two sets
  compared : (test : ℤ → ℤ → Bool) (a b : NumExpr) → (num_fits scope a && num_fits scope b) ≡ true → test (num_value (under at best) a) (num_value (under at best) b) ≡ test (num_value at a) (num_value at b)
  compared test a b fits = ap₂ test (same_num a (first_true _ _ fits)) (same_num b (second_true _ _ fits))

  abbrev SameCond : Cond → Type 0
  SameCond p = cond_fits scope p ≡ true → cond_holds (under at best) p ≡ cond_holds at p

  cond_layer : {X : Type 0} (tree : X → Cond) → ((x : X) → SameCond (tree x)) → (y : Cond-F X) → cond_fits_step scope (map-Cond Cond Bool (cond_fits scope) (map-Cond X Cond tree y)) ≡ true → cond_step (under at best) (map-Cond Cond Bool (cond_holds (under at best)) (map-Cond X Cond tree y)) ≡ cond_step at (map-Cond Cond Bool (cond_holds at) (map-Cond X Cond tree y))
  cond_layer tree same Cond-F.Always fits = refl
  cond_layer tree same Cond-F.Never fits = refl
  cond_layer tree same (Cond-F.AtMost a b) fits = compared int_le a b fits
  cond_layer tree same (Cond-F.Below a b) fits = compared int_lt a b fits
  cond_layer tree same (Cond-F.AtLeast a b) fits = compared (λ m n. int_le n m) a b fits
  cond_layer tree same (Cond-F.Above a b) fits = compared (λ m n. int_lt n m) a b fits
  cond_layer tree same (Cond-F.Equal a b) fits = compared int_eq a b fits
  cond_layer tree same (Cond-F.Has set) fits = ap (λ s. bit_at s at.value == 1) (same_set at best set)
  cond_layer tree same (Cond-F.Lacks set) fits = ap (λ s. not (bit_at s at.value == 1)) (same_set at best set)
  cond_layer tree same (Cond-F.Subset a b) fits = ap₂ (λ s t. bit_and s t == s) (same_set at best a) (same_set at best b)
  cond_layer tree same (Cond-F.Both p q) fits = ap₂ (λ m n. m && n) (same p (first_true _ _ fits)) (same q (second_true _ _ fits))
  cond_layer tree same (Cond-F.Either p q) fits = ap₂ (λ m n. m || n) (same p (first_true _ _ fits)) (same q (second_true _ _ fits))
  cond_layer tree same (Cond-F.Not p) fits = ap not (same p fits)

  cond_rolled : (x : Cond-F Cond) → (cond_fits_step scope (map-Cond Cond Bool (cond_fits scope) x) ≡ true → cond_step (under at best) (map-Cond Cond Bool (cond_holds (under at best)) x) ≡ cond_step at (map-Cond Cond Bool (cond_holds at) x)) → SameCond (roll-Cond x)
  cond_rolled x layer = λ fits. fold-roll-Cond Bool (cond_step (under at best)) x ∙ (layer (sym (fold-roll-Cond Bool (cond_fits_step scope) x) ∙ fits) ∙ sym (fold-roll-Cond Bool (cond_step at) x))

  pub same_cond : (p : Cond) → SameCond p
  same_cond = ind-Cond SameCond (λ x y same. cond_rolled x (subst (λ z. cond_fits_step scope (map-Cond Cond Bool (cond_fits scope) z) ≡ true → cond_step (under at best) (map-Cond Cond Bool (cond_holds (under at best)) z) ≡ cond_step at (map-Cond Cond Bool (cond_holds at) z)) same (cond_layer (λ s. s.0) (λ s. s.1) y)))

-- a good condition of a scope without the bound
pub condition_same : (scope : Scope) (p : Cond) (at : Setting) (best : ℤ) → scope.best ≡ false → IsTrue (is_good_cond scope p) → cond_holds (record at { best = best }) p ≡ cond_holds at p
condition_same scope p at best without good = same_cond scope without at best p (first_true _ _ good)

test_same : (b : BoundSpecification) (position value : ℕ) (down up : List Prop) (best other : ℤ) → IsWithoutBest b.spec → test_passes b position value down up best ≡ test_passes b position value down up other
test_same b position value down up best other without = condition_same (record (test_scope b.spec) { best = false }) b.spec.test (test_setting b position value down up other) best refl without

accepts_for : {b : BoundSpecification} {best : ℤ} {position : ℕ} {down : List Prop} {values : List ℕ} (other : ℤ) → IsWithoutBest b.spec → AcceptsFrom b best position down values → AcceptsFrom b other position down values
accepts_for other without at_end = at_end
accepts_for {b = b} {best = best} {position = position} {down = down} other without (one_more {value = value} holds more) = one_more (sym (test_same b position value down _ best other without) ∙ holds) (accepts_for other without more)

-- a run that accepts under one bound accepts under every other
pub accepts_same : (b : BoundSpecification) (values : List ℕ) (best other : ℤ) → IsWithoutBest b.spec → Accepts b best values ↔ Accepts b other values
accepts_same b values best other without = (accepts_for other without, accepts_for best without)
