-- Whether trees fit a scope, and how deep they are, by their parts: one lemma a node. A depth is a number that is
-- computed of the depths of the parts, so that it is a numeral at a closed tree.
use Rattle.std.proofs.Common.{◌≡◌, ℕ, ℤ, ◌+◌, max, true, Bool, ◌&&◌, nat_le, slice_get, ap, ap₂, ◌∙◌}
use Rattle.hk_spec.specs.Scopes.{Scope, kinds_of, is_number_kind, is_interval_kind, is_set_kind, is_num_param, is_set_param, is_list_param, is_within_limit}
use Rattle.hk_spec.specs.Scopes.{set_fits, set_fits_step, set_depth, set_depth_step, num_fits, num_fits_step, num_depth, num_depth_step}
use Rattle.hk_spec.specs.Scopes.{cond_fits, cond_fits_step, cond_depth, cond_depth_step, is_good_num, is_good_set, is_good_cond}
use Rattle.hk_spec.specs.Trees as tree
use Rattle.hk_spec.specs.declared.expressions.Side.{Side}
use Rattle.hk_spec.specs.declared.expressions.NumExpr.{NumExpr}
use Rattle.hk_spec.specs.declared.expressions.NumExpr.TheOpen.{NumExpr-F}
use Rattle.hk_spec.specs.declared.expressions.NumExpr.TheFolds.{fold-roll-NumExpr}
use Rattle.hk_spec.specs.declared.expressions.SetExpr.{SetExpr}
use Rattle.hk_spec.specs.declared.expressions.SetExpr.TheOpen.{SetExpr-F}
use Rattle.hk_spec.specs.declared.expressions.SetExpr.TheFolds.{fold-roll-SetExpr}
use Rattle.hk_spec.specs.declared.expressions.Cond.{Cond}
use Rattle.hk_spec.specs.declared.expressions.Cond.TheOpen.{Cond-F, Below as layer_below}
use Rattle.hk_spec.specs.declared.expressions.Cond.TheFolds.{fold-roll-Cond}

-- the tree fits the scope and is so deep
pub record SetFits (scope : Scope) (depth : ℕ) (e : SetExpr) : Type 0 where
  pub fits : set_fits scope e ≡ true
  pub deep : set_depth e ≡ depth

pub record NumFits (scope : Scope) (depth : ℕ) (e : NumExpr) : Type 0 where
  pub fits : num_fits scope e ≡ true
  pub deep : num_depth e ≡ depth

pub record CondFits (scope : Scope) (depth : ℕ) (p : Cond) : Type 0 where
  pub fits : cond_fits scope p ≡ true
  pub deep : cond_depth p ≡ depth

-- a tree that fits and is at most 32 deep is a good one
pub good_set : {scope : Scope} {depth : ℕ} {e : SetExpr} → SetFits scope depth e → nat_le depth 32 ≡ true → is_good_set scope e ≡ true
good_set h k = ap₂ (λ x y. x && y) h.fits (ap (λ d. nat_le d 32) h.deep ∙ k)

pub good_num : {scope : Scope} {depth : ℕ} {e : NumExpr} → NumFits scope depth e → nat_le depth 32 ≡ true → is_good_num scope e ≡ true
good_num h k = ap₂ (λ x y. x && y) h.fits (ap (λ d. nat_le d 32) h.deep ∙ k)

pub good_cond : {scope : Scope} {depth : ℕ} {p : Cond} → CondFits scope depth p → nat_le depth 32 ≡ true → is_good_cond scope p ≡ true
good_cond h k = ap₂ (λ x y. x && y) h.fits (ap (λ d. nat_le d 32) h.deep ∙ k)

-- two parts: each fits, and the deeper one counts
fits_two : {whole a b : Bool} → whole ≡ a && b → a ≡ true → b ≡ true → whole ≡ true
fits_two is h k = is ∙ ap₂ (λ x y. x && y) h k

deep_two : {whole a b m n : ℕ} → whole ≡ max a b + 1 → a ≡ m → b ≡ n → whole ≡ max m n + 1
deep_two is h k = is ∙ ap₂ (λ x y. max x y + 1) h k

deep_one : {whole a m : ℕ} → whole ≡ a + 1 → a ≡ m → whole ≡ m + 1
deep_one is h = is ∙ ap (λ x. x + 1) h

module _ (scope : Scope) where
  -- sets
  pub fits-one : SetFits scope 1 tree.one
  fits-one = record { fits = fold-roll-SetExpr Bool (set_fits_step scope) SetExpr-F.One; deep = fold-roll-SetExpr ℕ set_depth_step SetExpr-F.One }

  pub fits-set_param : (place : ℕ) → is_set_param (slice_get scope.params place) ≡ true → SetFits scope 1 (tree.set_param place)
  fits-set_param place is = record { fits = fold-roll-SetExpr Bool (set_fits_step scope) (SetExpr-F.Param place) ∙ is; deep = fold-roll-SetExpr ℕ set_depth_step (SetExpr-F.Param place) }

  pub fits-bits : (side : Side) (place : ℕ) → is_set_kind (slice_get (kinds_of scope side) place) ≡ true → SetFits scope 1 (tree.bits side place)
  fits-bits side place is = record { fits = fold-roll-SetExpr Bool (set_fits_step scope) (SetExpr-F.Bits side place) ∙ is; deep = fold-roll-SetExpr ℕ set_depth_step (SetExpr-F.Bits side place) }

  pub fits-union : {m n : ℕ} {a b : SetExpr} → SetFits scope m a → SetFits scope n b → SetFits scope (max m n + 1) (tree.union a b)
  fits-union {m} {n} {a} {b} h k = record { fits = fits_two (fold-roll-SetExpr Bool (set_fits_step scope) (SetExpr-F.Union a b)) h.fits k.fits; deep = deep_two (fold-roll-SetExpr ℕ set_depth_step (SetExpr-F.Union a b)) h.deep k.deep }

  pub fits-common : {m n : ℕ} {a b : SetExpr} → SetFits scope m a → SetFits scope n b → SetFits scope (max m n + 1) (tree.common a b)
  fits-common {m} {n} {a} {b} h k = record { fits = fits_two (fold-roll-SetExpr Bool (set_fits_step scope) (SetExpr-F.Common a b)) h.fits k.fits; deep = deep_two (fold-roll-SetExpr ℕ set_depth_step (SetExpr-F.Common a b)) h.deep k.deep }

  -- numbers
  pub fits-literal : (n : ℤ) → is_within_limit n ≡ true → NumFits scope 1 (tree.literal n)
  fits-literal n is = record { fits = fold-roll-NumExpr Bool (num_fits_step scope) (NumExpr-F.Lit n) ∙ is; deep = fold-roll-NumExpr ℕ num_depth_step (NumExpr-F.Lit n) }

  pub fits-value : NumFits scope 1 tree.value
  fits-value = record { fits = fold-roll-NumExpr Bool (num_fits_step scope) NumExpr-F.Value; deep = fold-roll-NumExpr ℕ num_depth_step NumExpr-F.Value }

  pub fits-index : NumFits scope 1 tree.index
  fits-index = record { fits = fold-roll-NumExpr Bool (num_fits_step scope) NumExpr-F.Index; deep = fold-roll-NumExpr ℕ num_depth_step NumExpr-F.Index }

  pub fits-positions : NumFits scope 1 tree.positions
  fits-positions = record { fits = fold-roll-NumExpr Bool (num_fits_step scope) NumExpr-F.Length; deep = fold-roll-NumExpr ℕ num_depth_step NumExpr-F.Length }

  pub fits-best : scope.best ≡ true → NumFits scope 1 tree.best
  fits-best is = record { fits = fold-roll-NumExpr Bool (num_fits_step scope) NumExpr-F.Best ∙ is; deep = fold-roll-NumExpr ℕ num_depth_step NumExpr-F.Best }

  pub fits-number_param : (place : ℕ) → is_num_param (slice_get scope.params place) ≡ true → NumFits scope 1 (tree.number_param place)
  fits-number_param place is = record { fits = fold-roll-NumExpr Bool (num_fits_step scope) (NumExpr-F.Param place) ∙ is; deep = fold-roll-NumExpr ℕ num_depth_step (NumExpr-F.Param place) }

  pub fits-item : (place : ℕ) → is_list_param (slice_get scope.params place) ≡ true → NumFits scope 1 (tree.item place)
  fits-item place is = record { fits = fold-roll-NumExpr Bool (num_fits_step scope) (NumExpr-F.Item place) ∙ is; deep = fold-roll-NumExpr ℕ num_depth_step (NumExpr-F.Item place) }

  pub fits-number : (side : Side) (place : ℕ) → is_number_kind (slice_get (kinds_of scope side) place) ≡ true → NumFits scope 1 (tree.number side place)
  fits-number side place is = record { fits = fold-roll-NumExpr Bool (num_fits_step scope) (NumExpr-F.Number side place) ∙ is; deep = fold-roll-NumExpr ℕ num_depth_step (NumExpr-F.Number side place) }

  pub fits-low : (side : Side) (place : ℕ) → is_interval_kind (slice_get (kinds_of scope side) place) ≡ true → NumFits scope 1 (tree.low side place)
  fits-low side place is = record { fits = fold-roll-NumExpr Bool (num_fits_step scope) (NumExpr-F.Low side place) ∙ is; deep = fold-roll-NumExpr ℕ num_depth_step (NumExpr-F.Low side place) }

  pub fits-high : (side : Side) (place : ℕ) → is_interval_kind (slice_get (kinds_of scope side) place) ≡ true → NumFits scope 1 (tree.high side place)
  fits-high side place is = record { fits = fold-roll-NumExpr Bool (num_fits_step scope) (NumExpr-F.High side place) ∙ is; deep = fold-roll-NumExpr ℕ num_depth_step (NumExpr-F.High side place) }

  pub fits-card : {m : ℕ} {set : SetExpr} → SetFits scope m set → NumFits scope (m + 1) (tree.card set)
  fits-card {m} {set} h = record { fits = fold-roll-NumExpr Bool (num_fits_step scope) (NumExpr-F.Card set) ∙ h.fits; deep = deep_one (fold-roll-NumExpr ℕ num_depth_step (NumExpr-F.Card set)) h.deep }

  pub fits-plus : {m n : ℕ} {a b : NumExpr} → NumFits scope m a → NumFits scope n b → NumFits scope (max m n + 1) (tree.plus a b)
  fits-plus {m} {n} {a} {b} h k = record { fits = fits_two (fold-roll-NumExpr Bool (num_fits_step scope) (NumExpr-F.Add a b)) h.fits k.fits; deep = deep_two (fold-roll-NumExpr ℕ num_depth_step (NumExpr-F.Add a b)) h.deep k.deep }

  pub fits-minus : {m n : ℕ} {a b : NumExpr} → NumFits scope m a → NumFits scope n b → NumFits scope (max m n + 1) (tree.minus a b)
  fits-minus {m} {n} {a} {b} h k = record { fits = fits_two (fold-roll-NumExpr Bool (num_fits_step scope) (NumExpr-F.Minus a b)) h.fits k.fits; deep = deep_two (fold-roll-NumExpr ℕ num_depth_step (NumExpr-F.Minus a b)) h.deep k.deep }

  pub fits-times : {m n : ℕ} {a b : NumExpr} → NumFits scope m a → NumFits scope n b → NumFits scope (max m n + 1) (tree.times a b)
  fits-times {m} {n} {a} {b} h k = record { fits = fits_two (fold-roll-NumExpr Bool (num_fits_step scope) (NumExpr-F.Times a b)) h.fits k.fits; deep = deep_two (fold-roll-NumExpr ℕ num_depth_step (NumExpr-F.Times a b)) h.deep k.deep }

  -- conditions
  pub fits-at_most : {m n : ℕ} {a b : NumExpr} → NumFits scope m a → NumFits scope n b → CondFits scope (max m n + 1) (tree.at_most a b)
  fits-at_most {m} {n} {a} {b} h k = record { fits = fits_two (fold-roll-Cond Bool (cond_fits_step scope) (Cond-F.AtMost a b)) h.fits k.fits; deep = deep_two (fold-roll-Cond ℕ cond_depth_step (Cond-F.AtMost a b)) h.deep k.deep }

  pub fits-below : {m n : ℕ} {a b : NumExpr} → NumFits scope m a → NumFits scope n b → CondFits scope (max m n + 1) (tree.below a b)
  fits-below {m} {n} {a} {b} h k = record { fits = fits_two (fold-roll-Cond Bool (cond_fits_step scope) (layer_below a b)) h.fits k.fits; deep = deep_two (fold-roll-Cond ℕ cond_depth_step (layer_below a b)) h.deep k.deep }

  pub fits-at_least : {m n : ℕ} {a b : NumExpr} → NumFits scope m a → NumFits scope n b → CondFits scope (max m n + 1) (tree.at_least a b)
  fits-at_least {m} {n} {a} {b} h k = record { fits = fits_two (fold-roll-Cond Bool (cond_fits_step scope) (Cond-F.AtLeast a b)) h.fits k.fits; deep = deep_two (fold-roll-Cond ℕ cond_depth_step (Cond-F.AtLeast a b)) h.deep k.deep }

  pub fits-lacks : {m : ℕ} {set : SetExpr} → SetFits scope m set → CondFits scope (m + 1) (tree.lacks set)
  fits-lacks {m} {set} h = record { fits = fold-roll-Cond Bool (cond_fits_step scope) (Cond-F.Lacks set) ∙ h.fits; deep = deep_one (fold-roll-Cond ℕ cond_depth_step (Cond-F.Lacks set)) h.deep }

  pub fits-both : {m n : ℕ} {p q : Cond} → CondFits scope m p → CondFits scope n q → CondFits scope (max m n + 1) (tree.both p q)
  fits-both {m} {n} {p} {q} h k = record { fits = fits_two (fold-roll-Cond Bool (cond_fits_step scope) (Cond-F.Both p q)) h.fits k.fits; deep = deep_two (fold-roll-Cond ℕ cond_depth_step (Cond-F.Both p q)) h.deep k.deep }

  pub fits-either : {m n : ℕ} {p q : Cond} → CondFits scope m p → CondFits scope n q → CondFits scope (max m n + 1) (tree.either p q)
  fits-either {m} {n} {p} {q} h k = record { fits = fits_two (fold-roll-Cond Bool (cond_fits_step scope) (Cond-F.Either p q)) h.fits k.fits; deep = deep_two (fold-roll-Cond ℕ cond_depth_step (Cond-F.Either p q)) h.deep k.deep }
