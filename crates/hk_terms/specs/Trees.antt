-- How an expression is written: with the names of what it uses.
use Rattle.std.specs.Prelude.{ℕ, suc, ℤ, pos, negsuc, Bool, true, false, ◌==◌, List, [], filter, map, slice_get, Option, None, Some, codes}
use Rattle.std.specs.Fmt.{decimal}
use Rattle.std.specs.Int.{bit_at}
use Rattle.std.specs.List.{range_with_len}
use Rattle.hk_spec.specs.declared.expressions.Side.{Side}
use Rattle.hk_spec.specs.declared.expressions.Side.TheVariants.{Down, Up}
use Rattle.hk_spec.specs.declared.expressions.NumExpr.{NumExpr}
use Rattle.hk_spec.specs.declared.expressions.NumExpr.TheOpen.{NumExpr-F}
use Rattle.hk_spec.specs.declared.expressions.NumExpr.TheFolds.{fold-NumExpr}
use Rattle.hk_spec.specs.declared.expressions.SetExpr.{SetExpr}
use Rattle.hk_spec.specs.declared.expressions.SetExpr.TheOpen.{SetExpr-F}
use Rattle.hk_spec.specs.declared.expressions.SetExpr.TheFolds.{fold-SetExpr}
use Rattle.hk_spec.specs.declared.expressions.Cond.{Cond}
use Rattle.hk_spec.specs.declared.expressions.Cond.TheOpen.{Cond-F}
use Rattle.hk_spec.specs.declared.expressions.Cond.TheFolds.{fold-Cond}
use Rattle.hk_spec.specs.declared.parts.Param.{Param}
use Rattle.hk_spec.specs.declared.parts.PropDecl.{PropDecl}
use Rattle.hk_terms.specs.SetTexts as set
use Rattle.hk_terms.specs.SetTexts.{SetText}
use Rattle.hk_terms.specs.NumTexts as num
use Rattle.hk_terms.specs.NumTexts.{NumText}
use Rattle.hk_terms.specs.CondTexts as cond
use Rattle.hk_terms.specs.CondTexts.{CondText}
use Rattle.hk_terms.specs.Names.{Names}

-- the values of a set, rising
abbrev pub members : ℕ → List ℕ
members set = filter (λ value. bit_at set value == 1) (range_with_len 0 128)

-- whether a number is written with `-` in front
abbrev pub is_negative : ℤ → Bool
is_negative (pos n) = false
is_negative (negsuc n) = true

-- the digits of a number
abbrev pub digits_of : ℤ → List ℕ
digits_of (pos n) = decimal n
digits_of (negsuc n) = decimal (suc n)

-- the numbers in braces of a set
abbrev pub member_texts : ℕ → List (List ℕ)
member_texts set = map decimal (members set)

-- the name of the parameter at a place; no word where there is none
abbrev pub param_name : Option Param → List ℕ
param_name None = []
param_name (Some p) = p.name

-- the name of the property at a place
abbrev pub property_name : Option PropDecl → List ℕ
property_name None = []
property_name (Some p) = p.name

-- the properties of one side
abbrev pub properties_of : Names → Side → List PropDecl
properties_of names Down = names.down
properties_of names Up = names.up

-- how a set expression is written, of how its parts are
abbrev pub set_text_step : Names → SetExpr-F SetText → SetText
set_text_step names (SetExpr-F.Lit bits) = set.Values (member_texts bits)
set_text_step names SetExpr-F.One = set.One
set_text_step names (SetExpr-F.Param place) = set.Named (param_name (slice_get names.params place))
set_text_step names (SetExpr-F.Bits side place) = set.Named (property_name (slice_get (properties_of names side) place))
set_text_step names (SetExpr-F.Union a b) = set.Joined set.Union a b
set_text_step names (SetExpr-F.Common a b) = set.Joined set.Common a b
set_text_step names (SetExpr-F.Without a b) = set.Joined set.Without a b

-- how a set expression is written
abbrev pub set_text : Names → SetExpr → SetText
set_text names = fold-SetExpr SetText (set_text_step names)

-- how a number expression is written, of how its parts are
abbrev pub num_text_step : Names → NumExpr-F NumText → NumText
num_text_step names (NumExpr-F.Lit n) = num.Number (is_negative n) (digits_of n)
num_text_step names NumExpr-F.Value = num.Named (codes "v")
num_text_step names NumExpr-F.Index = num.Named (codes "i")
num_text_step names NumExpr-F.Length = num.Named (codes "n")
num_text_step names NumExpr-F.Best = num.Named (codes "best")
num_text_step names (NumExpr-F.Param place) = num.Named (param_name (slice_get names.params place))
num_text_step names (NumExpr-F.Item place) = num.Item (param_name (slice_get names.params place))
num_text_step names (NumExpr-F.Number side place) = num.Named (property_name (slice_get (properties_of names side) place))
num_text_step names (NumExpr-F.Low side place) = num.Low (property_name (slice_get (properties_of names side) place))
num_text_step names (NumExpr-F.High side place) = num.High (property_name (slice_get (properties_of names side) place))
num_text_step names (NumExpr-F.Card e) = num.Card (set_text names e)
num_text_step names (NumExpr-F.Add a b) = num.Joined num.Plus a b
num_text_step names (NumExpr-F.Least a b) = num.Chosen num.Least a b
num_text_step names (NumExpr-F.Most a b) = num.Chosen num.Most a b
num_text_step names (NumExpr-F.Minus a b) = num.Joined num.Minus a b
num_text_step names (NumExpr-F.Negative a) = num.Negative a
num_text_step names (NumExpr-F.Times a b) = num.Joined num.Times a b

-- how a number expression is written
abbrev pub num_text : Names → NumExpr → NumText
num_text names = fold-NumExpr NumText (num_text_step names)

-- how a condition is written, of how its parts are
abbrev pub cond_text_step : Names → Cond-F CondText → CondText
cond_text_step names Cond-F.Always = cond.Truth true
cond_text_step names Cond-F.Never = cond.Truth false
cond_text_step names (Cond-F.AtMost a b) = cond.Compared cond.AtMost (num_text names a) (num_text names b)
cond_text_step names (Cond-F.Below a b) = cond.Compared cond.Below (num_text names a) (num_text names b)
cond_text_step names (Cond-F.AtLeast a b) = cond.Compared cond.AtLeast (num_text names a) (num_text names b)
cond_text_step names (Cond-F.Above a b) = cond.Compared cond.Above (num_text names a) (num_text names b)
cond_text_step names (Cond-F.Equal a b) = cond.Compared cond.Equal (num_text names a) (num_text names b)
cond_text_step names (Cond-F.Has e) = cond.Member true (set_text names e)
cond_text_step names (Cond-F.Lacks e) = cond.Member false (set_text names e)
cond_text_step names (Cond-F.Subset a b) = cond.Subset (set_text names a) (set_text names b)
cond_text_step names (Cond-F.Both p q) = cond.Joined true p q
cond_text_step names (Cond-F.Either p q) = cond.Joined false p q
cond_text_step names (Cond-F.Not p) = cond.Not p

-- how a condition is written
abbrev pub cond_text : Names → Cond → CondText
cond_text names = fold-Cond CondText (cond_text_step names)
