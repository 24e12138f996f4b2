-- What an expression may name, how deep it may be, and when it is a good one.
use Rattle.std.specs.Prelude.{ℕ, ℤ, Bool, true, false, ◌&&◌, ◌+◌, max, ◌^◌, neg_ℤ, int_le, nat_le, nat_lt, Option, Some, List, slice_get}
use Rattle.hk_base.specs.Limits.{number_limit}
use Rattle.hk_kinds.specs.declared.kinds.Kind.{Kind}
use Rattle.hk_kinds.specs.declared.kinds.Kind.TheVariants.{Min, Max, Interval, SomeBits, AllBits}
use Rattle.hk_spec.specs.declared.parts.ParamKind.{ParamKind}
use Rattle.hk_spec.specs.declared.parts.ParamKind.TheVariants as kind
use Rattle.hk_spec.specs.declared.expressions.Side.{Side}
use Rattle.hk_spec.specs.declared.expressions.Side.TheVariants.{Down, Up}
use Rattle.hk_spec.specs.declared.expressions.NumExpr.{NumExpr}
use Rattle.hk_spec.specs.declared.expressions.NumExpr.TheOpen.{NumExpr-F}
use Rattle.hk_spec.specs.declared.expressions.NumExpr.TheFolds.{fold-NumExpr}
use Rattle.hk_spec.specs.declared.expressions.SetExpr.{SetExpr}
use Rattle.hk_spec.specs.declared.expressions.SetExpr.TheOpen.{SetExpr-F}
use Rattle.hk_spec.specs.declared.expressions.SetExpr.TheFolds.{fold-SetExpr}
use Rattle.hk_spec.specs.declared.expressions.Cond.{Cond}
use Rattle.hk_spec.specs.declared.expressions.Cond.TheOpen.{Cond-F}
use Rattle.hk_spec.specs.declared.expressions.Cond.TheFolds.{fold-Cond}

-- what an expression may name: parameters and properties, by their kinds, and the bound on the cost or not
pub record Scope : Type 0 where
  pub params : List ParamKind
  pub down : List Kind
  pub up : List Kind
  pub best : Bool

-- the kinds of the properties of one side
abbrev pub kinds_of : Scope → Side → List Kind
kinds_of scope Down = scope.down
kinds_of scope Up = scope.up

-- a Min or a Max property is there
abbrev pub is_number_kind : Option Kind → Bool
is_number_kind (Some Min) = true
is_number_kind (Some Max) = true
is_number_kind _ = false

-- an Interval property is there
abbrev pub is_interval_kind : Option Kind → Bool
is_interval_kind (Some Interval) = true
is_interval_kind _ = false

-- a SomeBits or an AllBits property is there
abbrev pub is_set_kind : Option Kind → Bool
is_set_kind (Some SomeBits) = true
is_set_kind (Some AllBits) = true
is_set_kind _ = false

-- a num parameter is there
abbrev pub is_num_param : Option ParamKind → Bool
is_num_param (Some kind.Num) = true
is_num_param _ = false

-- a set parameter is there
abbrev pub is_set_param : Option ParamKind → Bool
is_set_param (Some kind.Set) = true
is_set_param _ = false

-- a list parameter is there
abbrev pub is_list_param : Option ParamKind → Bool
is_list_param (Some kind.List) = true
is_list_param _ = false

-- the test whether a number lies from -1,000,000,000,000 to 1,000,000,000,000
abbrev pub is_within_limit : ℤ → Bool
is_within_limit n = int_le (neg_ℤ number_limit) n && int_le n number_limit

-- whether a set expression names what is there, each of the kind that its place asks, and its literals have no
-- values but 0 to 127
abbrev pub set_fits_step : Scope → SetExpr-F Bool → Bool
set_fits_step scope (SetExpr-F.Lit set) = nat_lt set (2 ^ 128)
set_fits_step scope SetExpr-F.One = true
set_fits_step scope (SetExpr-F.Param place) = is_set_param (slice_get scope.params place)
set_fits_step scope (SetExpr-F.Bits side place) = is_set_kind (slice_get (kinds_of scope side) place)
set_fits_step scope (SetExpr-F.Union a b) = a && b
set_fits_step scope (SetExpr-F.Common a b) = a && b
set_fits_step scope (SetExpr-F.Without a b) = a && b

-- the same of a whole set expression
abbrev pub set_fits : Scope → SetExpr → Bool
set_fits scope = fold-SetExpr Bool (set_fits_step scope)

-- whether a number expression names what is there, each of the kind that its place asks, and its literals are
-- within the limit
abbrev pub num_fits_step : Scope → NumExpr-F Bool → Bool
num_fits_step scope (NumExpr-F.Lit n) = is_within_limit n
num_fits_step scope NumExpr-F.Value = true
num_fits_step scope NumExpr-F.Index = true
num_fits_step scope NumExpr-F.Length = true
num_fits_step scope NumExpr-F.Best = scope.best
num_fits_step scope (NumExpr-F.Param place) = is_num_param (slice_get scope.params place)
num_fits_step scope (NumExpr-F.Item place) = is_list_param (slice_get scope.params place)
num_fits_step scope (NumExpr-F.Number side place) = is_number_kind (slice_get (kinds_of scope side) place)
num_fits_step scope (NumExpr-F.Low side place) = is_interval_kind (slice_get (kinds_of scope side) place)
num_fits_step scope (NumExpr-F.High side place) = is_interval_kind (slice_get (kinds_of scope side) place)
num_fits_step scope (NumExpr-F.Card set) = set_fits scope set
num_fits_step scope (NumExpr-F.Add a b) = a && b
num_fits_step scope (NumExpr-F.Least a b) = a && b
num_fits_step scope (NumExpr-F.Most a b) = a && b
num_fits_step scope (NumExpr-F.Minus a b) = a && b
num_fits_step scope (NumExpr-F.Negative a) = a
num_fits_step scope (NumExpr-F.Times a b) = a && b

-- the same of a whole number expression
abbrev pub num_fits : Scope → NumExpr → Bool
num_fits scope = fold-NumExpr Bool (num_fits_step scope)

-- whether a condition names what is there, each of the kind that its place asks
abbrev pub cond_fits_step : Scope → Cond-F Bool → Bool
cond_fits_step scope Cond-F.Always = true
cond_fits_step scope Cond-F.Never = true
cond_fits_step scope (Cond-F.AtMost a b) = num_fits scope a && num_fits scope b
cond_fits_step scope (Cond-F.Below a b) = num_fits scope a && num_fits scope b
cond_fits_step scope (Cond-F.AtLeast a b) = num_fits scope a && num_fits scope b
cond_fits_step scope (Cond-F.Above a b) = num_fits scope a && num_fits scope b
cond_fits_step scope (Cond-F.Equal a b) = num_fits scope a && num_fits scope b
cond_fits_step scope (Cond-F.Has set) = set_fits scope set
cond_fits_step scope (Cond-F.Lacks set) = set_fits scope set
cond_fits_step scope (Cond-F.Subset a b) = set_fits scope a && set_fits scope b
cond_fits_step scope (Cond-F.Both p q) = p && q
cond_fits_step scope (Cond-F.Either p q) = p && q
cond_fits_step scope (Cond-F.Not p) = p

-- the same of a whole condition
abbrev pub cond_fits : Scope → Cond → Bool
cond_fits scope = fold-Cond Bool (cond_fits_step scope)

-- the depth of a set expression, of those of its parts: 1 for a leaf, and one more than its deepest part
abbrev pub set_depth_step : SetExpr-F ℕ → ℕ
set_depth_step (SetExpr-F.Lit set) = 1
set_depth_step SetExpr-F.One = 1
set_depth_step (SetExpr-F.Param place) = 1
set_depth_step (SetExpr-F.Bits side place) = 1
set_depth_step (SetExpr-F.Union a b) = max a b + 1
set_depth_step (SetExpr-F.Common a b) = max a b + 1
set_depth_step (SetExpr-F.Without a b) = max a b + 1

-- the depth of a set expression
abbrev pub set_depth : SetExpr → ℕ
set_depth = fold-SetExpr ℕ set_depth_step

-- the depth of a number expression, of those of its parts
abbrev pub num_depth_step : NumExpr-F ℕ → ℕ
num_depth_step (NumExpr-F.Lit n) = 1
num_depth_step NumExpr-F.Value = 1
num_depth_step NumExpr-F.Index = 1
num_depth_step NumExpr-F.Length = 1
num_depth_step NumExpr-F.Best = 1
num_depth_step (NumExpr-F.Param place) = 1
num_depth_step (NumExpr-F.Item place) = 1
num_depth_step (NumExpr-F.Number side place) = 1
num_depth_step (NumExpr-F.Low side place) = 1
num_depth_step (NumExpr-F.High side place) = 1
num_depth_step (NumExpr-F.Card set) = set_depth set + 1
num_depth_step (NumExpr-F.Add a b) = max a b + 1
num_depth_step (NumExpr-F.Least a b) = max a b + 1
num_depth_step (NumExpr-F.Most a b) = max a b + 1
num_depth_step (NumExpr-F.Minus a b) = max a b + 1
num_depth_step (NumExpr-F.Negative a) = a + 1
num_depth_step (NumExpr-F.Times a b) = max a b + 1

-- the depth of a number expression
abbrev pub num_depth : NumExpr → ℕ
num_depth = fold-NumExpr ℕ num_depth_step

-- the depth of a condition, of those of its parts
abbrev pub cond_depth_step : Cond-F ℕ → ℕ
cond_depth_step Cond-F.Always = 1
cond_depth_step Cond-F.Never = 1
cond_depth_step (Cond-F.AtMost a b) = max (num_depth a) (num_depth b) + 1
cond_depth_step (Cond-F.Below a b) = max (num_depth a) (num_depth b) + 1
cond_depth_step (Cond-F.AtLeast a b) = max (num_depth a) (num_depth b) + 1
cond_depth_step (Cond-F.Above a b) = max (num_depth a) (num_depth b) + 1
cond_depth_step (Cond-F.Equal a b) = max (num_depth a) (num_depth b) + 1
cond_depth_step (Cond-F.Has set) = set_depth set + 1
cond_depth_step (Cond-F.Lacks set) = set_depth set + 1
cond_depth_step (Cond-F.Subset a b) = max (set_depth a) (set_depth b) + 1
cond_depth_step (Cond-F.Both p q) = max p q + 1
cond_depth_step (Cond-F.Either p q) = max p q + 1
cond_depth_step (Cond-F.Not p) = p + 1

-- the depth of a condition
abbrev pub cond_depth : Cond → ℕ
cond_depth = fold-Cond ℕ cond_depth_step

-- the greatest depth of an expression
abbrev pub most_depth : ℕ
most_depth = 32

-- a number expression of a specification: it fits the scope, and is not too deep
abbrev pub is_good_num : Scope → NumExpr → Bool
is_good_num scope e = num_fits scope e && nat_le (num_depth e) most_depth

-- a set expression of a specification
abbrev pub is_good_set : Scope → SetExpr → Bool
is_good_set scope e = set_fits scope e && nat_le (set_depth e) most_depth

-- a condition of a specification
abbrev pub is_good_cond : Scope → Cond → Bool
is_good_cond scope p = cond_fits scope p && nat_le (cond_depth p) most_depth
