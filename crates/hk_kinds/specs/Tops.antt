-- What covers everything of a kind or a shape.
use Rattle.std.specs.Prelude.{neg_ℤ, ◌-◌, ◌^◌, List, map}
use Rattle.hk_base.specs.Limits.{number_limit}
use Rattle.hk_kinds.specs.declared.kinds.Kind.{Kind}
use Rattle.hk_kinds.specs.declared.kinds.Kind.TheVariants.{Min, Max, Interval, SomeBits, AllBits}
use Rattle.hk_kinds.specs.declared.properties.Prop.{Prop}
use Rattle.hk_kinds.specs.declared.properties.Prop.TheVariants.{Num, Pair, Bits}

-- the property that covers every property of the kind
abbrev pub top_property : Kind → Prop
top_property Min = Num (neg_ℤ number_limit)
top_property Max = Num number_limit
top_property Interval = Pair (neg_ℤ number_limit) number_limit
top_property SomeBits = Bits (2 ^ 128 - 1)
top_property AllBits = Bits 0

-- the state that covers every state of the shape
abbrev pub top_state : List Kind → List Prop
top_state kinds = map top_property kinds
