-- The order of properties and of states.
use Rattle.std.specs.Prelude.{List}
use Rattle.std.specs.Ordering.{int_cmp, nat_cmp, ordering_then}
use Rattle.std.specs.Cmp.Lexicographic.{slice_cmp}
use Rattle.std.specs.declared.cmp.Ordering.{Ordering}
use Rattle.std.specs.declared.cmp.Ordering.TheVariants.{Less, Greater}
use Rattle.hk_kinds.specs.declared.properties.Prop.{Prop}
use Rattle.hk_kinds.specs.declared.properties.Prop.TheVariants.{Num, Pair, Bits}

-- numbers by size, pairs by the first number and then the second, sets as numbers;
-- a number comes before a pair, and a pair before a set
abbrev pub property_order : Prop → Prop → Ordering
property_order (Num a) (Num b) = int_cmp a b
property_order (Pair a b) (Pair c d) = ordering_then (int_cmp a c) (int_cmp b d)
property_order (Bits a) (Bits b) = nat_cmp a b
property_order (Num _) _ = Less
property_order (Pair _ _) (Num _) = Greater
property_order (Pair _ _) (Bits _) = Less
property_order (Bits _) _ = Greater

-- states by the first property in which they differ
abbrev pub state_order : List Prop → List Prop → Ordering
state_order = slice_cmp property_order
