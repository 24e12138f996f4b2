-- Short names for the trees of expressions and conditions, as the texts of specifications write them.
use Rattle.std.specs.Prelude.{ℕ, ℤ}
use Rattle.hk_spec.specs.declared.expressions.Side.{Side}
use Rattle.hk_spec.specs.declared.expressions.NumExpr.{NumExpr}
use Rattle.hk_spec.specs.declared.expressions.NumExpr.TheOpen.{NumExpr-F}
use Rattle.hk_spec.specs.declared.expressions.NumExpr.TheViews.{roll-NumExpr}
use Rattle.hk_spec.specs.declared.expressions.SetExpr.{SetExpr}
use Rattle.hk_spec.specs.declared.expressions.SetExpr.TheOpen.{SetExpr-F}
use Rattle.hk_spec.specs.declared.expressions.SetExpr.TheViews.{roll-SetExpr}
use Rattle.hk_spec.specs.declared.expressions.Cond.{Cond}
use Rattle.hk_spec.specs.declared.expressions.Cond.TheOpen.{Cond-F, Below as layer_below}
use Rattle.hk_spec.specs.declared.expressions.Cond.TheViews.{roll-Cond}

-- a literal number
abbrev pub literal : ℤ → NumExpr
literal n = roll-NumExpr (NumExpr-F.Lit n)

-- `v`, the value
abbrev pub value : NumExpr
value = roll-NumExpr NumExpr-F.Value

-- `i`, the number of earlier variables of the scope
abbrev pub index : NumExpr
index = roll-NumExpr NumExpr-F.Index

-- `n`, the number of variables of the scope
abbrev pub positions : NumExpr
positions = roll-NumExpr NumExpr-F.Length

-- `best`, the bound on the cost
abbrev pub best : NumExpr
best = roll-NumExpr NumExpr-F.Best

-- the num parameter at a place
abbrev pub number_param : ℕ → NumExpr
number_param place = roll-NumExpr (NumExpr-F.Param place)

-- `c[i]`, of the list parameter at a place
abbrev pub item : ℕ → NumExpr
item place = roll-NumExpr (NumExpr-F.Item place)

-- the Min or Max property at a place of a side
abbrev pub number : Side → ℕ → NumExpr
number side place = roll-NumExpr (NumExpr-F.Number side place)

-- `p.lo`, of the Interval property at a place of a side
abbrev pub low : Side → ℕ → NumExpr
low side place = roll-NumExpr (NumExpr-F.Low side place)

-- `p.hi`, of the Interval property at a place of a side
abbrev pub high : Side → ℕ → NumExpr
high side place = roll-NumExpr (NumExpr-F.High side place)

-- `card(S)`
abbrev pub card : SetExpr → NumExpr
card set = roll-NumExpr (NumExpr-F.Card set)

-- `(a + b)`
abbrev pub plus : NumExpr → NumExpr → NumExpr
plus a b = roll-NumExpr (NumExpr-F.Add a b)

-- `(a - b)`
abbrev pub minus : NumExpr → NumExpr → NumExpr
minus a b = roll-NumExpr (NumExpr-F.Minus a b)

-- `(a * b)`
abbrev pub times : NumExpr → NumExpr → NumExpr
times a b = roll-NumExpr (NumExpr-F.Times a b)

-- `{v}`, the set of the value
abbrev pub one : SetExpr
one = roll-SetExpr SetExpr-F.One

-- the set parameter at a place
abbrev pub set_param : ℕ → SetExpr
set_param place = roll-SetExpr (SetExpr-F.Param place)

-- the SomeBits or AllBits property at a place of a side
abbrev pub bits : Side → ℕ → SetExpr
bits side place = roll-SetExpr (SetExpr-F.Bits side place)

-- `(a | b)`
abbrev pub union : SetExpr → SetExpr → SetExpr
union a b = roll-SetExpr (SetExpr-F.Union a b)

-- `(a & b)`
abbrev pub common : SetExpr → SetExpr → SetExpr
common a b = roll-SetExpr (SetExpr-F.Common a b)

-- `(a <= b)`
abbrev pub at_most : NumExpr → NumExpr → Cond
at_most a b = roll-Cond (Cond-F.AtMost a b)

-- `(a < b)`
abbrev pub below : NumExpr → NumExpr → Cond
below a b = roll-Cond (layer_below a b)

-- `(a >= b)`
abbrev pub at_least : NumExpr → NumExpr → Cond
at_least a b = roll-Cond (Cond-F.AtLeast a b)

-- `(v notin S)`
abbrev pub lacks : SetExpr → Cond
lacks set = roll-Cond (Cond-F.Lacks set)

-- `(p and q)`
abbrev pub both : Cond → Cond → Cond
both p q = roll-Cond (Cond-F.Both p q)

-- `(p or q)`
abbrev pub either : Cond → Cond → Cond
either p q = roll-Cond (Cond-F.Either p q)
