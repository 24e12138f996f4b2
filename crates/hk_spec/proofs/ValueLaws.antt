-- The values of the expressions of a specification: numbers are within the limit, and sets have no values but
-- 0 to 127.
use Rattle.std.proofs.Common.{◌≡◌, ℕ, ℤ, Bool, true, ◌<◌, ◌≤◌, ◌^◌, ◌/◌, zero, suc, neg_ℤ, ◌+ℤ◌, ◌-ℤ◌, ◌*ℤ◌, nat_lt, bit_and, count_ones, arith, sym, ◌∙◌, subst}
use Rattle.std.proofs.lemmas.Bool.Decides.{nat_tests}
use Rattle.std.proofs.lemmas.Nat.{or_lt, xor_lt, and_le_l}
use Rattle.std.proofs.lemmas.Nat.{ones_le_self}
use Rattle.std.proofs.Math.Nat.{pow-suc}
use Rattle.std.proofs.Math.Pow.{pow-lt}
use Rattle.std.specs.Int.Count.{ones_step}
use Rattle.std.specs.Int.{int_max, int_min}
use Rattle.hk_kinds.proofs.PropertyLaws.{to_le}
use Rattle.hk_kinds.specs.Limits.{IsWithinLimit}
use Rattle.hk_kinds.specs.NumberLattices.{first_true, second_true}
use Rattle.hk_kinds.specs.Sets.{IsSet}
use Rattle.hk_kinds.specs.Shapes.{HasShape}
use Rattle.hk_spec.specs.Arguments.{AreArguments}
use Rattle.hk_spec.specs.Scopes.{Scope, kinds_of, is_within_limit, num_fits, num_fits_step, set_fits, set_fits_step}
use Rattle.hk_spec.specs.Settings.{Setting, state_of}
use Rattle.hk_spec.specs.Values.{num_value, num_step, set_value, set_step}
use Rattle.hk_spec.specs.declared.expressions.Side.TheVariants.{Down, Up}
use Rattle.hk_spec.specs.declared.expressions.Side.{Side}
use Rattle.hk_spec.specs.declared.expressions.NumExpr.{NumExpr}
use Rattle.hk_spec.specs.declared.expressions.NumExpr.TheOpen.{NumExpr-F}
use Rattle.hk_spec.specs.declared.expressions.NumExpr.TheViews.{roll-NumExpr}
use Rattle.hk_spec.specs.declared.expressions.NumExpr.TheFolds.{ind-NumExpr, fold-roll-NumExpr, map-NumExpr}
use Rattle.hk_spec.specs.declared.expressions.SetExpr.{SetExpr}
use Rattle.hk_spec.specs.declared.expressions.SetExpr.TheOpen.{SetExpr-F}
use Rattle.hk_spec.specs.declared.expressions.SetExpr.TheViews.{roll-SetExpr}
use Rattle.hk_spec.specs.declared.expressions.SetExpr.TheFolds.{ind-SetExpr, fold-roll-SetExpr, map-SetExpr}
use Rattle.hk_spec.proofs.Lookups.{small_within, clamped_within, number_within, low_within, high_within, set_within, argument_within, item_within, set_argument_within}

-- the setting is one of the scope: its states have the kinds, its arguments the kinds of parameters
pub record IsSettingOf (scope : Scope) (at : Setting) : Type 0 where
  pub value : at.value < 128
  pub position : at.position < 65536
  pub positions : at.positions < 65536
  pub arguments : AreArguments at.positions scope.params at.args
  pub down : HasShape scope.down at.down
  pub up : HasShape scope.up at.up
  pub best : scope.best ≡ true → IsWithinLimit at.best

side_of : {scope : Scope} {at : Setting} → IsSettingOf scope at → (side : Side) → HasShape (kinds_of scope side) (state_of at side)
side_of known Down = known.down
side_of known Up = known.up

below_from_test : (m n : ℕ) → nat_lt m n ≡ true → m < n
below_from_test m n h = grind (arith, nat_tests)

and_set : (a b : ℕ) → IsSet a → IsSet (bit_and a b)
and_set a b h = omega (arith, and_le_l a b)

within_from_test : (n : ℤ) → is_within_limit n ≡ true → IsWithinLimit n
within_from_test n h = record { least = to_le _ _ (first_true _ _ h); most = to_le _ _ (second_true _ _ h) }

-- a number of so many digits has no more ones
ones_most : (digits n : ℕ) → n < 2 ^ digits → count_ones n ≤ digits
ones_most zero n h =
    let none : n ≡ 0 = omega arith in
    let small = ones_le_self n in
    omega (arith, small)
ones_most (suc digits) n h =
    let half : n / 2 < 2 ^ digits = omega (arith, pow-suc 2 digits) in
    let fewer = ones_most digits (n / 2) half in
    let step = ones_step n in
    omega (arith, fewer, step)

card_small : (set : ℕ) → IsSet set → count_ones set < 65536
card_small set h =
    let few = ones_most 128 set h in
    omega (arith, few)

module _ {scope : Scope} {at : Setting} (known : IsSettingOf scope at) where
  abbrev KeepsSet : SetExpr → Type 0
  KeepsSet e = set_fits scope e ≡ true → IsSet (set_value at e)

  set_layer : {X : Type 0} (tree : X → SetExpr) → ((x : X) → KeepsSet (tree x)) → (y : SetExpr-F X) → set_fits_step scope (map-SetExpr SetExpr Bool (set_fits scope) (map-SetExpr X SetExpr tree y)) ≡ true → IsSet (set_step at (map-SetExpr SetExpr ℕ (set_value at) (map-SetExpr X SetExpr tree y)))
  set_layer tree keeps (SetExpr-F.Lit set) fits = below_from_test set (2 ^ 128) fits
  set_layer tree keeps SetExpr-F.One fits = pow-lt known.value
  set_layer tree keeps (SetExpr-F.Param place) fits = set_argument_within known.arguments place
  set_layer tree keeps (SetExpr-F.Bits side place) fits = set_within (side_of known side) place
  set_layer tree keeps (SetExpr-F.Union a b) fits = or_lt 128 _ _ (keeps a (first_true _ _ fits)) (keeps b (second_true _ _ fits))
  set_layer tree keeps (SetExpr-F.Common a b) fits = and_set _ _ (keeps a (first_true _ _ fits))
  set_layer tree keeps (SetExpr-F.Without a b) fits = xor_lt 128 _ _ (keeps a (first_true _ _ fits)) (and_set _ _ (keeps a (first_true _ _ fits)))

  set_rolled : (x : SetExpr-F SetExpr) → (set_fits_step scope (map-SetExpr SetExpr Bool (set_fits scope) x) ≡ true → IsSet (set_step at (map-SetExpr SetExpr ℕ (set_value at) x))) → KeepsSet (roll-SetExpr x)
  set_rolled x layer = λ fits. subst IsSet (sym (fold-roll-SetExpr ℕ (set_step at) x)) (layer (sym (fold-roll-SetExpr Bool (set_fits_step scope) x) ∙ fits))

  pub set_value_within : (e : SetExpr) → KeepsSet e
  set_value_within = ind-SetExpr KeepsSet (λ x y same. set_rolled x (subst (λ z. set_fits_step scope (map-SetExpr SetExpr Bool (set_fits scope) z) ≡ true → IsSet (set_step at (map-SetExpr SetExpr ℕ (set_value at) z))) same (set_layer (λ s. s.0) (λ s. s.1) y)))

  abbrev KeepsNum : NumExpr → Type 0
  KeepsNum e = num_fits scope e ≡ true → IsWithinLimit (num_value at e)

  num_layer : {X : Type 0} (tree : X → NumExpr) → ((x : X) → KeepsNum (tree x)) → (y : NumExpr-F X) → num_fits_step scope (map-NumExpr NumExpr Bool (num_fits scope) (map-NumExpr X NumExpr tree y)) ≡ true → IsWithinLimit (num_step at (map-NumExpr NumExpr ℤ (num_value at) (map-NumExpr X NumExpr tree y)))
  num_layer tree keeps (NumExpr-F.Lit n) fits = within_from_test n fits
  num_layer tree keeps NumExpr-F.Value fits = small_within at.value (omega (arith, known.value))
  num_layer tree keeps NumExpr-F.Index fits = small_within at.position known.position
  num_layer tree keeps NumExpr-F.Length fits = small_within at.positions known.positions
  num_layer tree keeps NumExpr-F.Best fits = known.best fits
  num_layer tree keeps (NumExpr-F.Param place) fits = argument_within known.arguments place
  num_layer tree keeps (NumExpr-F.Item place) fits = item_within known.arguments place at.position
  num_layer tree keeps (NumExpr-F.Number side place) fits = number_within (side_of known side) place
  num_layer tree keeps (NumExpr-F.Low side place) fits = low_within (side_of known side) place
  num_layer tree keeps (NumExpr-F.High side place) fits = high_within (side_of known side) place
  num_layer tree keeps (NumExpr-F.Card set) fits = small_within (count_ones (set_value at set)) (card_small (set_value at set) (set_value_within set fits))
  num_layer tree keeps (NumExpr-F.Add a b) fits = clamped_within (num_value at (tree a) +ℤ num_value at (tree b))
  num_layer tree keeps (NumExpr-F.Least a b) fits = clamped_within (int_min (num_value at (tree a)) (num_value at (tree b)))
  num_layer tree keeps (NumExpr-F.Most a b) fits = clamped_within (int_max (num_value at (tree a)) (num_value at (tree b)))
  num_layer tree keeps (NumExpr-F.Minus a b) fits = clamped_within (num_value at (tree a) -ℤ num_value at (tree b))
  num_layer tree keeps (NumExpr-F.Negative a) fits = clamped_within (neg_ℤ (num_value at (tree a)))
  num_layer tree keeps (NumExpr-F.Times a b) fits = clamped_within (num_value at (tree a) *ℤ num_value at (tree b))

  num_rolled : (x : NumExpr-F NumExpr) → (num_fits_step scope (map-NumExpr NumExpr Bool (num_fits scope) x) ≡ true → IsWithinLimit (num_step at (map-NumExpr NumExpr ℤ (num_value at) x))) → KeepsNum (roll-NumExpr x)
  num_rolled x layer = λ fits. subst IsWithinLimit (sym (fold-roll-NumExpr ℤ (num_step at) x)) (layer (sym (fold-roll-NumExpr Bool (num_fits_step scope) x) ∙ fits))

  pub num_value_within : (e : NumExpr) → KeepsNum e
  num_value_within = ind-NumExpr KeepsNum (λ x y same. num_rolled x (subst (λ z. num_fits_step scope (map-NumExpr NumExpr Bool (num_fits scope) z) ≡ true → IsWithinLimit (num_step at (map-NumExpr NumExpr ℤ (num_value at) z))) same (num_layer (λ s. s.0) (λ s. s.1) y)))
