-- In which sense each expression of a specification moves, and which senses are allowed.
use Rattle.std.specs.Prelude.{◌≡◌, ℕ, ℤ, pos, ◌<◌, int_lt, if◌then◌else◌, Option, None, Some, List, slice_get}
use Rattle.hk_kinds.specs.declared.kinds.Kind.{Kind}
use Rattle.hk_kinds.specs.declared.kinds.Kind.TheVariants.{Min, Max, Interval, SomeBits, AllBits}
use Rattle.hk_spec.specs.Specifications.{Specification, down_shape, up_shape}
use Rattle.hk_spec.specs.declared.expressions.Side.{Side}
use Rattle.hk_spec.specs.declared.expressions.Side.TheVariants.{Down, Up}
use Rattle.hk_spec.specs.declared.expressions.NumExpr.{NumExpr}
use Rattle.hk_spec.specs.declared.expressions.NumExpr.TheOpen.{NumExpr-F}
use Rattle.hk_spec.specs.declared.expressions.NumExpr.TheFolds.{fold-NumExpr}
use Rattle.hk_spec.specs.declared.expressions.SetExpr.{SetExpr}
use Rattle.hk_spec.specs.declared.expressions.SetExpr.TheOpen.{SetExpr-F}
use Rattle.hk_spec.specs.declared.expressions.SetExpr.TheFolds.{fold-SetExpr}
use Rattle.hk_spec.specs.declared.expressions.Cond.{Cond}
use Rattle.hk_spec.specs.declared.expressions.Cond.TheOpen.{Cond-F}
use Rattle.hk_spec.specs.declared.expressions.Cond.TheFolds.{fold-Cond}
use Rattle.hk_spec.specs.declared.parts.StepExpr.{StepExpr}
use Rattle.hk_spec.specs.declared.parts.StepExpr.TheVariants as step
use Rattle.hk_spec.specs.declared.senses.Place.{Place}
use Rattle.hk_spec.specs.declared.senses.Place.TheVariants as place
use Rattle.hk_spec.specs.declared.senses.Sense.{Sense}
use Rattle.hk_spec.specs.declared.senses.Sense.TheVariants.{Fixed, Rises, Falls, Mixed}

-- the kinds of the properties of both sides, which is all that a sense depends on beside the expression
pub record Kinds : Type 0 where
  pub down : List Kind
  pub up : List Kind

-- the kind of the property at a place of a side, where there is one
abbrev pub kind_at : Kinds → Side → ℕ → Option Kind
kind_at of Down place = slice_get of.down place
kind_at of Up place = slice_get of.up place

-- Rises and Falls change places
abbrev pub turned : Sense → Sense
turned Fixed = Fixed
turned Rises = Falls
turned Falls = Rises
turned Mixed = Mixed

-- Fixed leaves the other as it is, two alike stay, and any other two are Mixed
abbrev pub combined : Sense → Sense → Sense
combined Fixed other = other
combined Rises Fixed = Rises
combined Rises Rises = Rises
combined Rises Falls = Mixed
combined Rises Mixed = Mixed
combined Falls Fixed = Falls
combined Falls Rises = Mixed
combined Falls Falls = Falls
combined Falls Mixed = Mixed
combined Mixed other = Mixed

-- Fixed where both are, else Mixed
abbrev pub fixed_or_mixed : Sense → Sense → Sense
fixed_or_mixed Fixed Fixed = Fixed
fixed_or_mixed Fixed Rises = Mixed
fixed_or_mixed Fixed Falls = Mixed
fixed_or_mixed Fixed Mixed = Mixed
fixed_or_mixed Rises other = Mixed
fixed_or_mixed Falls other = Mixed
fixed_or_mixed Mixed other = Mixed

-- the sense of a product with this number: that of the other factor, turned where the number is below 0
abbrev pub scaled : ℤ → Sense → Sense
scaled factor sense = if int_lt factor (pos 0) then turned sense else sense

-- what is read of a number expression: the literal that it is, where it is one, and its sense
pub record NumReading : Type 0 where
  pub literal : Option ℤ
  pub sense : Sense

-- the sense of a product: scaled by a literal, where one of the factors is one
abbrev pub product_sense : NumReading → NumReading → Sense
product_sense a b = by a.literal b.literal
  where
    by : Option ℤ → Option ℤ → Sense
    by (Some factor) other = scaled factor b.sense
    by None (Some factor) = scaled factor a.sense
    by None None = fixed_or_mixed a.sense b.sense

-- a Min property falls and a Max property rises; where neither stands, which no specification names, it is Fixed
abbrev pub number_sense : Option Kind → Sense
number_sense (Some Min) = Falls
number_sense (Some Max) = Rises
number_sense _ = Fixed

-- a SomeBits property rises and an AllBits property falls; where neither stands, it is Fixed
abbrev pub bits_sense : Option Kind → Sense
bits_sense (Some SomeBits) = Rises
bits_sense (Some AllBits) = Falls
bits_sense _ = Fixed

-- the table of senses of set expressions, by those of their parts
abbrev pub set_sense_step : Kinds → SetExpr-F Sense → Sense
set_sense_step of (SetExpr-F.Lit set) = Fixed
set_sense_step of SetExpr-F.One = Fixed
set_sense_step of (SetExpr-F.Param place) = Fixed
set_sense_step of (SetExpr-F.Bits side place) = bits_sense (kind_at of side place)
set_sense_step of (SetExpr-F.Union a b) = combined a b
set_sense_step of (SetExpr-F.Common a b) = combined a b
set_sense_step of (SetExpr-F.Without a b) = combined a (turned b)

-- the sense of a set expression
abbrev pub set_sense : Kinds → SetExpr → Sense
set_sense of = fold-SetExpr Sense (set_sense_step of)

-- the table of senses of number expressions, by what is read of their parts
abbrev pub num_sense_step : Kinds → NumExpr-F NumReading → Sense
num_sense_step of (NumExpr-F.Lit n) = Fixed
num_sense_step of NumExpr-F.Value = Fixed
num_sense_step of NumExpr-F.Index = Fixed
num_sense_step of NumExpr-F.Length = Fixed
num_sense_step of NumExpr-F.Best = Fixed
num_sense_step of (NumExpr-F.Param place) = Fixed
num_sense_step of (NumExpr-F.Item place) = Fixed
num_sense_step of (NumExpr-F.Number side place) = number_sense (kind_at of side place)
num_sense_step of (NumExpr-F.Low side place) = Falls
num_sense_step of (NumExpr-F.High side place) = Rises
num_sense_step of (NumExpr-F.Card set) = set_sense of set
num_sense_step of (NumExpr-F.Add a b) = combined a.sense b.sense
num_sense_step of (NumExpr-F.Least a b) = combined a.sense b.sense
num_sense_step of (NumExpr-F.Most a b) = combined a.sense b.sense
num_sense_step of (NumExpr-F.Minus a b) = combined a.sense (turned b.sense)
num_sense_step of (NumExpr-F.Negative a) = turned a.sense
num_sense_step of (NumExpr-F.Times a b) = product_sense a b

-- the literal that a number expression is, where it is one
abbrev pub literal_step : NumExpr-F NumReading → Option ℤ
literal_step (NumExpr-F.Lit n) = Some n
literal_step _ = None

-- what is read of a number expression, by what is read of its parts
abbrev pub num_reading_step : Kinds → NumExpr-F NumReading → NumReading
num_reading_step of e = record { literal = literal_step e; sense = num_sense_step of e }

-- what is read of a number expression
abbrev pub num_reading : Kinds → NumExpr → NumReading
num_reading of = fold-NumExpr NumReading (num_reading_step of)

-- the sense of a number expression
abbrev pub num_sense : Kinds → NumExpr → Sense
num_sense of e = (num_reading of e).sense

-- the table of senses of conditions, by those of their parts
abbrev pub cond_sense_step : Kinds → Cond-F Sense → Sense
cond_sense_step of Cond-F.Always = Fixed
cond_sense_step of Cond-F.Never = Fixed
cond_sense_step of (Cond-F.AtMost a b) = combined (turned (num_sense of a)) (num_sense of b)
cond_sense_step of (Cond-F.Below a b) = combined (turned (num_sense of a)) (num_sense of b)
cond_sense_step of (Cond-F.AtLeast a b) = combined (num_sense of a) (turned (num_sense of b))
cond_sense_step of (Cond-F.Above a b) = combined (num_sense of a) (turned (num_sense of b))
cond_sense_step of (Cond-F.Equal a b) = fixed_or_mixed (num_sense of a) (num_sense of b)
cond_sense_step of (Cond-F.Has set) = set_sense of set
cond_sense_step of (Cond-F.Lacks set) = turned (set_sense of set)
cond_sense_step of (Cond-F.Subset a b) = combined (turned (set_sense of a)) (set_sense of b)
cond_sense_step of (Cond-F.Both p q) = combined p q
cond_sense_step of (Cond-F.Either p q) = combined p q
cond_sense_step of (Cond-F.Not p) = turned p

-- the sense of a condition
abbrev pub cond_sense : Kinds → Cond → Sense
cond_sense of = fold-Cond Sense (cond_sense_step of)

-- what is wrong with a sense where only Fixed and Rises are allowed: the sense, or nothing
abbrev pub unless_rises : Sense → Option Sense
unless_rises Fixed = None
unless_rises Rises = None
unless_rises Falls = Some Falls
unless_rises Mixed = Some Mixed

-- the same where only Fixed and Falls are allowed
abbrev pub unless_falls : Sense → Option Sense
unless_falls Fixed = None
unless_falls Rises = Some Rises
unless_falls Falls = None
unless_falls Mixed = Some Mixed

-- the first of two wrong senses, where there is one
abbrev pub first_wrong : Option Sense → Option Sense → Option Sense
first_wrong None other = other
first_wrong (Some sense) other = Some sense

-- the sense of a test that isn't allowed: a test may be Fixed or rise
abbrev pub wrong_test : Kinds → Cond → Option Sense
wrong_test of test = unless_rises (cond_sense of test)

-- the sense of a step that isn't allowed: Min, AllBits and the first number of an Interval may be Fixed or fall, Max,
-- SomeBits and the second number of an Interval may be Fixed or rise. Of two wrong numbers the first one's is told
abbrev pub wrong_step : Kinds → Kind → StepExpr → Option Sense
wrong_step of Min (step.Num e) = unless_falls (num_sense of e)
wrong_step of Max (step.Num e) = unless_rises (num_sense of e)
wrong_step of Interval (step.Pair low high) = first_wrong (unless_falls (num_sense of low)) (unless_rises (num_sense of high))
wrong_step of SomeBits (step.Set e) = unless_rises (set_sense of e)
wrong_step of AllBits (step.Set e) = unless_falls (set_sense of e)
wrong_step of _ _ = None

-- the same of the step at a place of its side, where there is one
abbrev pub wrong_step_at : Kinds → List Kind → List StepExpr → ℕ → Option Sense
wrong_step_at of kinds steps place = by (slice_get kinds place) (slice_get steps place)
  where
    by : Option Kind → Option StepExpr → Option Sense
    by (Some kind) (Some e) = wrong_step of kind e
    by _ _ = None

-- the kinds of a specification's properties
abbrev pub kinds_in : Specification → Kinds
kinds_in s = record { down = down_shape s; up = up_shape s }

-- the sense of a place of a specification that isn't allowed there, where it isn't
abbrev pub wrong_sense : Specification → Place → Option Sense
wrong_sense s place.Test = wrong_test (kinds_in s) s.test
wrong_sense s (place.Down at) = wrong_step_at (kinds_in s) (down_shape s) s.down_step at
wrong_sense s (place.Up at) = wrong_step_at (kinds_in s) (up_shape s) s.up_step at

-- a specification is graded: each of its places has an allowed sense
pub record IsGraded (s : Specification) : Type 0 where
  pub allowed : (place : Place) → wrong_sense s place ≡ None

-- the order of places: the test, then the down steps, then the up steps
pub data ComesBefore : Place → Place → Type 0 where
  test_before_down : {k : ℕ} → ComesBefore place.Test (place.Down k)
  test_before_up : {k : ℕ} → ComesBefore place.Test (place.Up k)
  down_before_down : {j k : ℕ} → j < k → ComesBefore (place.Down j) (place.Down k)
  down_before_up : {j k : ℕ} → ComesBefore (place.Down j) (place.Up k)
  up_before_up : {j k : ℕ} → j < k → ComesBefore (place.Up j) (place.Up k)

-- the first place of a specification whose sense isn't allowed there, with the sense that it has
pub record IsFirstWrong (s : Specification) (place : Place) (found : Sense) : Type 0 where
  pub here : wrong_sense s place ≡ Some found
  pub first : (other : Place) → ComesBefore other place → wrong_sense s other ≡ None
