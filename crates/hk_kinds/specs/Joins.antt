-- The joins of properties and of states.
use Rattle.std.specs.Prelude.{List, [], ◌∷◌, bit_and, bit_or}
use Rattle.std.specs.Int.{int_max, int_min}
use Rattle.hk_kinds.specs.declared.kinds.Kind.{Kind}
use Rattle.hk_kinds.specs.declared.kinds.Kind.TheVariants.{Min, Max, Interval, SomeBits, AllBits}
use Rattle.hk_kinds.specs.declared.properties.Prop.{Prop}
use Rattle.hk_kinds.specs.declared.properties.Prop.TheVariants.{Num, Pair, Bits}

-- the join of two properties of a kind; one of another kind stays as it is
abbrev pub property_join : Kind → Prop → Prop → Prop
property_join Min (Num a) (Num b) = Num (int_min a b)
property_join Max (Num a) (Num b) = Num (int_max a b)
property_join Interval (Pair a b) (Pair c d) = Pair (int_min a c) (int_max b d)
property_join SomeBits (Bits a) (Bits b) = Bits (bit_or a b)
property_join AllBits (Bits a) (Bits b) = Bits (bit_and a b)
property_join _ p _ = p

-- states join property by property
abbrev pub state_join : List Kind → List Prop → List Prop → List Prop
state_join [] properties _ = properties
state_join (kind ∷ kinds) (p ∷ ps) (q ∷ qs) = property_join kind p q ∷ state_join kinds ps qs
state_join (kind ∷ kinds) properties _ = properties
