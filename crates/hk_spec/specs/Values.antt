-- The values of expressions and conditions.
use Rattle.std.specs.Prelude.{ℕ, ℤ, pos, Bool, true, false, ◌&&◌, ◌||◌, not, ◌==◌, ◌^◌, ◌+ℤ◌, ◌-ℤ◌, ◌*ℤ◌, neg_ℤ, int_le, int_lt, bit_and, bit_or, bit_xor, count_ones, slice_get}
use Rattle.std.specs.Int.{bit_at, int_max, int_min}
use Rattle.std.specs.Ordering.{int_eq}
use Rattle.hk_kinds.specs.Limits.{clamped}
use Rattle.hk_kinds.specs.Views.{number_of_property, low_of_property, high_of_property, set_of_property}
use Rattle.hk_spec.specs.Settings.{Setting, state_of, number_of_argument, item_of_argument, set_of_argument}
use Rattle.hk_spec.specs.declared.expressions.NumExpr.{NumExpr}
use Rattle.hk_spec.specs.declared.expressions.NumExpr.TheOpen.{NumExpr-F}
use Rattle.hk_spec.specs.declared.expressions.NumExpr.TheFolds.{fold-NumExpr}
use Rattle.hk_spec.specs.declared.expressions.SetExpr.{SetExpr}
use Rattle.hk_spec.specs.declared.expressions.SetExpr.TheOpen.{SetExpr-F}
use Rattle.hk_spec.specs.declared.expressions.SetExpr.TheFolds.{fold-SetExpr}
use Rattle.hk_spec.specs.declared.expressions.Cond.{Cond}
use Rattle.hk_spec.specs.declared.expressions.Cond.TheOpen.{Cond-F}
use Rattle.hk_spec.specs.declared.expressions.Cond.TheFolds.{fold-Cond}

-- the values of the first set that the second does not have
abbrev pub set_without : ℕ → ℕ → ℕ
set_without a b = bit_xor a (bit_and a b)

-- the value of a set expression, of those of its parts
abbrev pub set_step : Setting → SetExpr-F ℕ → ℕ
set_step at (SetExpr-F.Lit set) = set
set_step at SetExpr-F.One = 2 ^ at.value
set_step at (SetExpr-F.Param place) = set_of_argument (slice_get at.args place)
set_step at (SetExpr-F.Bits side place) = set_of_property (slice_get (state_of at side) place)
set_step at (SetExpr-F.Union a b) = bit_or a b
set_step at (SetExpr-F.Common a b) = bit_and a b
set_step at (SetExpr-F.Without a b) = set_without a b

-- the value of a set expression
abbrev pub set_value : Setting → SetExpr → ℕ
set_value at = fold-SetExpr ℕ (set_step at)

-- the value of a number expression, of those of its parts: each operation is exact, and its result is clamped
abbrev pub num_step : Setting → NumExpr-F ℤ → ℤ
num_step at (NumExpr-F.Lit n) = n
num_step at NumExpr-F.Value = pos at.value
num_step at NumExpr-F.Index = pos at.position
num_step at NumExpr-F.Length = pos at.positions
num_step at NumExpr-F.Best = at.best
num_step at (NumExpr-F.Param place) = number_of_argument (slice_get at.args place)
num_step at (NumExpr-F.Item place) = item_of_argument (slice_get at.args place) at.position
num_step at (NumExpr-F.Number side place) = number_of_property (slice_get (state_of at side) place)
num_step at (NumExpr-F.Low side place) = low_of_property (slice_get (state_of at side) place)
num_step at (NumExpr-F.High side place) = high_of_property (slice_get (state_of at side) place)
num_step at (NumExpr-F.Card set) = pos (count_ones (set_value at set))
num_step at (NumExpr-F.Add a b) = clamped (a +ℤ b)
num_step at (NumExpr-F.Least a b) = clamped (int_min a b)
num_step at (NumExpr-F.Most a b) = clamped (int_max a b)
num_step at (NumExpr-F.Minus a b) = clamped (a -ℤ b)
num_step at (NumExpr-F.Negative a) = clamped (neg_ℤ a)
num_step at (NumExpr-F.Times a b) = clamped (a *ℤ b)

-- the value of a number expression
abbrev pub num_value : Setting → NumExpr → ℤ
num_value at = fold-NumExpr ℤ (num_step at)

-- whether a condition holds, of whether its parts do
abbrev pub cond_step : Setting → Cond-F Bool → Bool
cond_step at Cond-F.Always = true
cond_step at Cond-F.Never = false
cond_step at (Cond-F.AtMost a b) = int_le (num_value at a) (num_value at b)
cond_step at (Cond-F.Below a b) = int_lt (num_value at a) (num_value at b)
cond_step at (Cond-F.AtLeast a b) = int_le (num_value at b) (num_value at a)
cond_step at (Cond-F.Above a b) = int_lt (num_value at b) (num_value at a)
cond_step at (Cond-F.Equal a b) = int_eq (num_value at a) (num_value at b)
cond_step at (Cond-F.Has set) = bit_at (set_value at set) at.value == 1
cond_step at (Cond-F.Lacks set) = not (bit_at (set_value at set) at.value == 1)
cond_step at (Cond-F.Subset a b) = bit_and (set_value at a) (set_value at b) == set_value at a
cond_step at (Cond-F.Both p q) = p && q
cond_step at (Cond-F.Either p q) = p || q
cond_step at (Cond-F.Not p) = not p

-- whether a condition holds
abbrev pub cond_holds : Setting → Cond → Bool
cond_holds at = fold-Cond Bool (cond_step at)
