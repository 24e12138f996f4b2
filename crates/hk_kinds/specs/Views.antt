-- What is read of a property that may stand at a place.
use Rattle.std.specs.Prelude.{ℕ, ℤ, pos, Option, Some}
use Rattle.hk_kinds.specs.declared.properties.Prop.{Prop}
use Rattle.hk_kinds.specs.declared.properties.Prop.TheVariants.{Num, Pair, Bits}

-- the number of a Min or a Max property; 0 where no such property stands
abbrev pub number_of_property : Option Prop → ℤ
number_of_property (Some (Num n)) = n
number_of_property _ = pos 0

-- the first number of an Interval property; 0 where no such property stands
abbrev pub low_of_property : Option Prop → ℤ
low_of_property (Some (Pair low high)) = low
low_of_property _ = pos 0

-- the second number of an Interval property; 0 where no such property stands
abbrev pub high_of_property : Option Prop → ℤ
high_of_property (Some (Pair low high)) = high
high_of_property _ = pos 0

-- the set of a SomeBits or an AllBits property; empty where no such property stands
abbrev pub set_of_property : Option Prop → ℕ
set_of_property (Some (Bits set)) = set
set_of_property _ = 0
