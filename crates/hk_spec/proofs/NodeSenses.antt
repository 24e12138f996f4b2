-- The senses of trees by those of their parts: one equation a node.
use Rattle.std.proofs.Common.{◌≡◌, ℕ, ℤ, None, ap}
use Rattle.hk_spec.specs.Grades.{Kinds, NumReading, kind_at, turned, combined, product_sense, number_sense, bits_sense}
use Rattle.hk_spec.specs.Grades.{set_sense, num_reading, num_sense, cond_sense, set_sense_step, num_reading_step, cond_sense_step}
use Rattle.hk_spec.specs.Trees as tree
use Rattle.hk_spec.specs.declared.expressions.Side.{Side}
use Rattle.hk_spec.specs.declared.expressions.NumExpr.{NumExpr}
use Rattle.hk_spec.specs.declared.expressions.NumExpr.TheOpen.{NumExpr-F}
use Rattle.hk_spec.specs.declared.expressions.NumExpr.TheFolds.{fold-roll-NumExpr}
use Rattle.hk_spec.specs.declared.expressions.SetExpr.{SetExpr}
use Rattle.hk_spec.specs.declared.expressions.SetExpr.TheOpen.{SetExpr-F}
use Rattle.hk_spec.specs.declared.expressions.SetExpr.TheFolds.{fold-roll-SetExpr}
use Rattle.hk_spec.specs.declared.expressions.Cond.{Cond}
use Rattle.hk_spec.specs.declared.expressions.Cond.TheOpen.{Cond-F, Below as layer_below}
use Rattle.hk_spec.specs.declared.expressions.Cond.TheFolds.{fold-roll-Cond}
use Rattle.hk_spec.specs.declared.senses.Sense.{Sense}
use Rattle.hk_spec.specs.declared.senses.Sense.TheVariants.{Fixed, Rises, Falls}

-- what is read of the leaves that a product is made of
pub num_reading-value : (of : Kinds) → num_reading of tree.value ≡ record { literal = None; sense = Fixed }
num_reading-value of = fold-roll-NumExpr NumReading (num_reading_step of) NumExpr-F.Value

pub num_reading-item : (of : Kinds) (place : ℕ) → num_reading of (tree.item place) ≡ record { literal = None; sense = Fixed }
num_reading-item of place = fold-roll-NumExpr NumReading (num_reading_step of) (NumExpr-F.Item place)

-- senses of numbers
abbrev sense_of : NumReading → Sense
sense_of read = read.sense

pub num_sense-literal : (of : Kinds) (n : ℤ) → num_sense of (tree.literal n) ≡ Fixed
num_sense-literal of n = ap sense_of (fold-roll-NumExpr NumReading (num_reading_step of) (NumExpr-F.Lit n))

pub num_sense-index : (of : Kinds) → num_sense of tree.index ≡ Fixed
num_sense-index of = ap sense_of (fold-roll-NumExpr NumReading (num_reading_step of) NumExpr-F.Index)

pub num_sense-positions : (of : Kinds) → num_sense of tree.positions ≡ Fixed
num_sense-positions of = ap sense_of (fold-roll-NumExpr NumReading (num_reading_step of) NumExpr-F.Length)

pub num_sense-best : (of : Kinds) → num_sense of tree.best ≡ Fixed
num_sense-best of = ap sense_of (fold-roll-NumExpr NumReading (num_reading_step of) NumExpr-F.Best)

pub num_sense-number_param : (of : Kinds) (place : ℕ) → num_sense of (tree.number_param place) ≡ Fixed
num_sense-number_param of place = ap sense_of (fold-roll-NumExpr NumReading (num_reading_step of) (NumExpr-F.Param place))

pub num_sense-number : (of : Kinds) (side : Side) (place : ℕ) → num_sense of (tree.number side place) ≡ number_sense (kind_at of side place)
num_sense-number of side place = ap sense_of (fold-roll-NumExpr NumReading (num_reading_step of) (NumExpr-F.Number side place))

pub num_sense-low : (of : Kinds) (side : Side) (place : ℕ) → num_sense of (tree.low side place) ≡ Falls
num_sense-low of side place = ap sense_of (fold-roll-NumExpr NumReading (num_reading_step of) (NumExpr-F.Low side place))

pub num_sense-high : (of : Kinds) (side : Side) (place : ℕ) → num_sense of (tree.high side place) ≡ Rises
num_sense-high of side place = ap sense_of (fold-roll-NumExpr NumReading (num_reading_step of) (NumExpr-F.High side place))

pub num_sense-card : (of : Kinds) (set : SetExpr) → num_sense of (tree.card set) ≡ set_sense of set
num_sense-card of set = ap sense_of (fold-roll-NumExpr NumReading (num_reading_step of) (NumExpr-F.Card set))

pub num_sense-plus : (of : Kinds) (a b : NumExpr) → num_sense of (tree.plus a b) ≡ combined (num_sense of a) (num_sense of b)
num_sense-plus of a b = ap sense_of (fold-roll-NumExpr NumReading (num_reading_step of) (NumExpr-F.Add a b))

pub num_sense-minus : (of : Kinds) (a b : NumExpr) → num_sense of (tree.minus a b) ≡ combined (num_sense of a) (turned (num_sense of b))
num_sense-minus of a b = ap sense_of (fold-roll-NumExpr NumReading (num_reading_step of) (NumExpr-F.Minus a b))

pub num_sense-times : (of : Kinds) (a b : NumExpr) → num_sense of (tree.times a b) ≡ product_sense (num_reading of a) (num_reading of b)
num_sense-times of a b = ap sense_of (fold-roll-NumExpr NumReading (num_reading_step of) (NumExpr-F.Times a b))

-- senses of sets
pub set_sense-one : (of : Kinds) → set_sense of tree.one ≡ Fixed
set_sense-one of = fold-roll-SetExpr Sense (set_sense_step of) SetExpr-F.One

pub set_sense-set_param : (of : Kinds) (place : ℕ) → set_sense of (tree.set_param place) ≡ Fixed
set_sense-set_param of place = fold-roll-SetExpr Sense (set_sense_step of) (SetExpr-F.Param place)

pub set_sense-bits : (of : Kinds) (side : Side) (place : ℕ) → set_sense of (tree.bits side place) ≡ bits_sense (kind_at of side place)
set_sense-bits of side place = fold-roll-SetExpr Sense (set_sense_step of) (SetExpr-F.Bits side place)

pub set_sense-union : (of : Kinds) (a b : SetExpr) → set_sense of (tree.union a b) ≡ combined (set_sense of a) (set_sense of b)
set_sense-union of a b = fold-roll-SetExpr Sense (set_sense_step of) (SetExpr-F.Union a b)

pub set_sense-common : (of : Kinds) (a b : SetExpr) → set_sense of (tree.common a b) ≡ combined (set_sense of a) (set_sense of b)
set_sense-common of a b = fold-roll-SetExpr Sense (set_sense_step of) (SetExpr-F.Common a b)

-- senses of conditions
pub cond_sense-at_most : (of : Kinds) (a b : NumExpr) → cond_sense of (tree.at_most a b) ≡ combined (turned (num_sense of a)) (num_sense of b)
cond_sense-at_most of a b = fold-roll-Cond Sense (cond_sense_step of) (Cond-F.AtMost a b)

pub cond_sense-below : (of : Kinds) (a b : NumExpr) → cond_sense of (tree.below a b) ≡ combined (turned (num_sense of a)) (num_sense of b)
cond_sense-below of a b = fold-roll-Cond Sense (cond_sense_step of) (layer_below a b)

pub cond_sense-at_least : (of : Kinds) (a b : NumExpr) → cond_sense of (tree.at_least a b) ≡ combined (num_sense of a) (turned (num_sense of b))
cond_sense-at_least of a b = fold-roll-Cond Sense (cond_sense_step of) (Cond-F.AtLeast a b)

pub cond_sense-lacks : (of : Kinds) (set : SetExpr) → cond_sense of (tree.lacks set) ≡ turned (set_sense of set)
cond_sense-lacks of set = fold-roll-Cond Sense (cond_sense_step of) (Cond-F.Lacks set)

pub cond_sense-both : (of : Kinds) (p q : Cond) → cond_sense of (tree.both p q) ≡ combined (cond_sense of p) (cond_sense of q)
cond_sense-both of p q = fold-roll-Cond Sense (cond_sense_step of) (Cond-F.Both p q)

pub cond_sense-either : (of : Kinds) (p q : Cond) → cond_sense of (tree.either p q) ≡ combined (cond_sense of p) (cond_sense of q)
cond_sense-either of p q = fold-roll-Cond Sense (cond_sense_step of) (Cond-F.Either p q)
