-- What an expression is computed of.
use Rattle.std.specs.Prelude.{ℕ, ℤ, pos, Option, Some, List, slice_get, unwrap_or}
use Rattle.hk_kinds.specs.declared.properties.Prop.{Prop}
use Rattle.hk_spec.specs.declared.arguments.Arg.{Arg}
use Rattle.hk_spec.specs.declared.arguments.Arg.TheVariants as argument
use Rattle.hk_spec.specs.declared.expressions.Side.{Side}
use Rattle.hk_spec.specs.declared.expressions.Side.TheVariants.{Down, Up}

-- what an expression is computed of: a value at a position of a list of that many values, a bound on the cost,
-- the arguments of the specification, and its down and its up state
pub record Setting : Type 0 where
  pub value : ℕ
  pub position : ℕ
  pub positions : ℕ
  pub best : ℤ
  pub args : List Arg
  pub down : List Prop
  pub up : List Prop

-- the state of one side
abbrev pub state_of : Setting → Side → List Prop
state_of at Down = at.down
state_of at Up = at.up

-- a num argument; 0 where none stands, which no specification names
abbrev pub number_of_argument : Option Arg → ℤ
number_of_argument (Some (argument.Num n)) = n
number_of_argument _ = pos 0

-- the number of a list argument at a position
abbrev pub item_of_argument : Option Arg → ℕ → ℤ
item_of_argument (Some (argument.Nums numbers)) position = unwrap_or (slice_get numbers position) (pos 0)
item_of_argument _ _ = pos 0

-- a set argument
abbrev pub set_of_argument : Option Arg → ℕ
set_of_argument (Some (argument.Set set)) = set
set_of_argument _ = 0
