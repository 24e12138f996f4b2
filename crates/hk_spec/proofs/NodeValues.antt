-- The values of trees by those of their parts: one equation a node.
use Rattle.std.proofs.Common.{◌≡◌, ℕ, ℤ, pos, Bool, ◌&&◌, ◌||◌, not, ◌==◌, ◌^◌, ◌+ℤ◌, ◌-ℤ◌, ◌*ℤ◌, int_le, int_lt, bit_and, bit_or, count_ones, slice_get}
use Rattle.std.specs.Int.{bit_at}
use Rattle.hk_kinds.specs.Limits.{clamped}
use Rattle.hk_kinds.specs.Views.{number_of_property, low_of_property, high_of_property, set_of_property}
use Rattle.hk_spec.specs.Settings.{Setting, state_of, number_of_argument, item_of_argument, set_of_argument}
use Rattle.hk_spec.specs.Trees as tree
use Rattle.hk_spec.specs.Values.{num_value, set_value, cond_holds, num_step, set_step, cond_step}
use Rattle.hk_spec.specs.declared.expressions.Side.{Side}
use Rattle.hk_spec.specs.declared.expressions.NumExpr.{NumExpr}
use Rattle.hk_spec.specs.declared.expressions.NumExpr.TheOpen.{NumExpr-F}
use Rattle.hk_spec.specs.declared.expressions.NumExpr.TheFolds.{fold-roll-NumExpr}
use Rattle.hk_spec.specs.declared.expressions.SetExpr.{SetExpr}
use Rattle.hk_spec.specs.declared.expressions.SetExpr.TheOpen.{SetExpr-F}
use Rattle.hk_spec.specs.declared.expressions.SetExpr.TheFolds.{fold-roll-SetExpr}
use Rattle.hk_spec.specs.declared.expressions.Cond.{Cond}
use Rattle.hk_spec.specs.declared.expressions.Cond.TheOpen.{Cond-F, Below as layer_below}
use Rattle.hk_spec.specs.declared.expressions.Cond.TheFolds.{fold-roll-Cond}

-- values of numbers
pub num_value-literal : (at : Setting) (n : ℤ) → num_value at (tree.literal n) ≡ n
num_value-literal at n = fold-roll-NumExpr ℤ (num_step at) (NumExpr-F.Lit n)

pub num_value-value : (at : Setting) → num_value at tree.value ≡ pos at.value
num_value-value at = fold-roll-NumExpr ℤ (num_step at) NumExpr-F.Value

pub num_value-index : (at : Setting) → num_value at tree.index ≡ pos at.position
num_value-index at = fold-roll-NumExpr ℤ (num_step at) NumExpr-F.Index

pub num_value-positions : (at : Setting) → num_value at tree.positions ≡ pos at.positions
num_value-positions at = fold-roll-NumExpr ℤ (num_step at) NumExpr-F.Length

pub num_value-best : (at : Setting) → num_value at tree.best ≡ at.best
num_value-best at = fold-roll-NumExpr ℤ (num_step at) NumExpr-F.Best

pub num_value-number_param : (at : Setting) (place : ℕ) → num_value at (tree.number_param place) ≡ number_of_argument (slice_get at.args place)
num_value-number_param at place = fold-roll-NumExpr ℤ (num_step at) (NumExpr-F.Param place)

pub num_value-item : (at : Setting) (place : ℕ) → num_value at (tree.item place) ≡ item_of_argument (slice_get at.args place) at.position
num_value-item at place = fold-roll-NumExpr ℤ (num_step at) (NumExpr-F.Item place)

pub num_value-number : (at : Setting) (side : Side) (place : ℕ) → num_value at (tree.number side place) ≡ number_of_property (slice_get (state_of at side) place)
num_value-number at side place = fold-roll-NumExpr ℤ (num_step at) (NumExpr-F.Number side place)

pub num_value-low : (at : Setting) (side : Side) (place : ℕ) → num_value at (tree.low side place) ≡ low_of_property (slice_get (state_of at side) place)
num_value-low at side place = fold-roll-NumExpr ℤ (num_step at) (NumExpr-F.Low side place)

pub num_value-high : (at : Setting) (side : Side) (place : ℕ) → num_value at (tree.high side place) ≡ high_of_property (slice_get (state_of at side) place)
num_value-high at side place = fold-roll-NumExpr ℤ (num_step at) (NumExpr-F.High side place)

pub num_value-card : (at : Setting) (set : SetExpr) → num_value at (tree.card set) ≡ pos (count_ones (set_value at set))
num_value-card at set = fold-roll-NumExpr ℤ (num_step at) (NumExpr-F.Card set)

pub num_value-plus : (at : Setting) (a b : NumExpr) → num_value at (tree.plus a b) ≡ clamped (num_value at a +ℤ num_value at b)
num_value-plus at a b = fold-roll-NumExpr ℤ (num_step at) (NumExpr-F.Add a b)

pub num_value-minus : (at : Setting) (a b : NumExpr) → num_value at (tree.minus a b) ≡ clamped (num_value at a -ℤ num_value at b)
num_value-minus at a b = fold-roll-NumExpr ℤ (num_step at) (NumExpr-F.Minus a b)

pub num_value-times : (at : Setting) (a b : NumExpr) → num_value at (tree.times a b) ≡ clamped (num_value at a *ℤ num_value at b)
num_value-times at a b = fold-roll-NumExpr ℤ (num_step at) (NumExpr-F.Times a b)

-- values of sets
pub set_value-one : (at : Setting) → set_value at tree.one ≡ 2 ^ at.value
set_value-one at = fold-roll-SetExpr ℕ (set_step at) SetExpr-F.One

pub set_value-set_param : (at : Setting) (place : ℕ) → set_value at (tree.set_param place) ≡ set_of_argument (slice_get at.args place)
set_value-set_param at place = fold-roll-SetExpr ℕ (set_step at) (SetExpr-F.Param place)

pub set_value-bits : (at : Setting) (side : Side) (place : ℕ) → set_value at (tree.bits side place) ≡ set_of_property (slice_get (state_of at side) place)
set_value-bits at side place = fold-roll-SetExpr ℕ (set_step at) (SetExpr-F.Bits side place)

pub set_value-union : (at : Setting) (a b : SetExpr) → set_value at (tree.union a b) ≡ bit_or (set_value at a) (set_value at b)
set_value-union at a b = fold-roll-SetExpr ℕ (set_step at) (SetExpr-F.Union a b)

pub set_value-common : (at : Setting) (a b : SetExpr) → set_value at (tree.common a b) ≡ bit_and (set_value at a) (set_value at b)
set_value-common at a b = fold-roll-SetExpr ℕ (set_step at) (SetExpr-F.Common a b)

-- whether conditions hold
pub cond_holds-at_most : (at : Setting) (a b : NumExpr) → cond_holds at (tree.at_most a b) ≡ int_le (num_value at a) (num_value at b)
cond_holds-at_most at a b = fold-roll-Cond Bool (cond_step at) (Cond-F.AtMost a b)

pub cond_holds-below : (at : Setting) (a b : NumExpr) → cond_holds at (tree.below a b) ≡ int_lt (num_value at a) (num_value at b)
cond_holds-below at a b = fold-roll-Cond Bool (cond_step at) (layer_below a b)

pub cond_holds-at_least : (at : Setting) (a b : NumExpr) → cond_holds at (tree.at_least a b) ≡ int_le (num_value at b) (num_value at a)
cond_holds-at_least at a b = fold-roll-Cond Bool (cond_step at) (Cond-F.AtLeast a b)

pub cond_holds-lacks : (at : Setting) (set : SetExpr) → cond_holds at (tree.lacks set) ≡ not (bit_at (set_value at set) at.value == 1)
cond_holds-lacks at set = fold-roll-Cond Bool (cond_step at) (Cond-F.Lacks set)

pub cond_holds-both : (at : Setting) (p q : Cond) → cond_holds at (tree.both p q) ≡ cond_holds at p && cond_holds at q
cond_holds-both at p q = fold-roll-Cond Bool (cond_step at) (Cond-F.Both p q)

pub cond_holds-either : (at : Setting) (p q : Cond) → cond_holds at (tree.either p q) ≡ cond_holds at p || cond_holds at q
cond_holds-either at p q = fold-roll-Cond Bool (cond_step at) (Cond-F.Either p q)
