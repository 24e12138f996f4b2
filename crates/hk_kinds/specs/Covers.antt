-- When a property or a state covers another.
use Rattle.std.specs.Prelude.{ℕ, ℤ, Bool, true, false, ◌&&◌, ◌==◌, ◌≤ℤ◌, int_le, List, [], ◌∷◌, bit_and, bit_or}
use Rattle.hk_kinds.specs.Sets.{IsSubset}
use Rattle.hk_kinds.specs.declared.kinds.Kind.{Kind}
use Rattle.hk_kinds.specs.declared.kinds.Kind.TheVariants.{Min, Max, Interval, SomeBits, AllBits}
use Rattle.hk_kinds.specs.declared.properties.Prop.{Prop}
use Rattle.hk_kinds.specs.declared.properties.Prop.TheVariants.{Num, Pair, Bits}

-- the first property of a kind covers the second: a Min from below, a Max from above, an interval round it,
-- SomeBits with all of its values, AllBits with none but its values
pub data PropertyCovers : Kind → Prop → Prop → Type 0 where
  covers_min : {a b : ℤ} → a ≤ℤ b → PropertyCovers Min (Num a) (Num b)
  covers_max : {a b : ℤ} → b ≤ℤ a → PropertyCovers Max (Num a) (Num b)
  covers_interval : {a b c d : ℤ} → a ≤ℤ c → d ≤ℤ b → PropertyCovers Interval (Pair a b) (Pair c d)
  covers_some : {a b : ℕ} → IsSubset b a → PropertyCovers SomeBits (Bits a) (Bits b)
  covers_all : {a b : ℕ} → IsSubset a b → PropertyCovers AllBits (Bits a) (Bits b)

-- states cover property by property
pub data StateCovers : List Kind → List Prop → List Prop → Type 0 where
  covers_none : StateCovers [] [] []
  covers_more : {kind : Kind} {p q : Prop} {kinds : List Kind} {ps qs : List Prop} → PropertyCovers kind p q → StateCovers kinds ps qs → StateCovers (kind ∷ kinds) (p ∷ ps) (q ∷ qs)

-- the test whether the first property of a kind covers the second
abbrev pub property_covers : Kind → Prop → Prop → Bool
property_covers Min (Num a) (Num b) = int_le a b
property_covers Max (Num a) (Num b) = int_le b a
property_covers Interval (Pair a b) (Pair c d) = int_le a c && int_le d b
property_covers SomeBits (Bits a) (Bits b) = bit_or a b == a
property_covers AllBits (Bits a) (Bits b) = bit_and a b == a
property_covers _ _ _ = false

-- the test whether the first state covers the second
abbrev pub state_covers : List Kind → List Prop → List Prop → Bool
state_covers [] [] [] = true
state_covers (kind ∷ kinds) (p ∷ ps) (q ∷ qs) = property_covers kind p q && state_covers kinds ps qs
state_covers _ _ _ = false
