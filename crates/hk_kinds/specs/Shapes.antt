-- Which properties a shape asks of a state.
use Rattle.std.specs.Prelude.{ℕ, ℤ, List, [], ◌∷◌}
use Rattle.hk_kinds.specs.Limits.{IsWithinLimit}
use Rattle.hk_kinds.specs.Sets.{IsSet}
use Rattle.hk_kinds.specs.declared.kinds.Kind.{Kind}
use Rattle.hk_kinds.specs.declared.kinds.Kind.TheVariants.{Min, Max, Interval, SomeBits, AllBits}
use Rattle.hk_kinds.specs.declared.properties.Prop.{Prop}
use Rattle.hk_kinds.specs.declared.properties.Prop.TheVariants.{Num, Pair, Bits}

-- the property is one of the kind: a number, two numbers or a set, with its numbers within the limit
pub data IsOfKind : Kind → Prop → Type 0 where
  is_min : {n : ℤ} → IsWithinLimit n → IsOfKind Min (Num n)
  is_max : {n : ℤ} → IsWithinLimit n → IsOfKind Max (Num n)
  is_interval : {low high : ℤ} → IsWithinLimit low → IsWithinLimit high → IsOfKind Interval (Pair low high)
  is_some : {set : ℕ} → IsSet set → IsOfKind SomeBits (Bits set)
  is_all : {set : ℕ} → IsSet set → IsOfKind AllBits (Bits set)

-- the properties are those of a shape, one of each of its kinds in order
pub data HasShape : List Kind → List Prop → Type 0 where
  no_kinds : HasShape [] []
  one_more : {kind : Kind} {property : Prop} {kinds : List Kind} {properties : List Prop} → IsOfKind kind property → HasShape kinds properties → HasShape (kind ∷ kinds) (property ∷ properties)
