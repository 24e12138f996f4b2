-- States in cells: a number for Min and Max, two for Interval, a set for SomeBits and AllBits.
use Rattle.std.specs.Prelude.{ℕ, ℤ, pos, ◌+◌, List, [], ◌∷◌, slice_index_or}
use Rattle.hk_kinds.specs.declared.kinds.Kind.{Kind}
use Rattle.hk_kinds.specs.declared.kinds.Kind.TheVariants.{Min, Max, Interval, SomeBits, AllBits}
use Rattle.hk_kinds.specs.declared.properties.Prop.{Prop}
use Rattle.hk_kinds.specs.declared.properties.Prop.TheVariants.{Num, Pair, Bits}
use Rattle.hk_arena.specs.Forms.{kind_nums, kind_sets}

-- the property of a kind whose numbers begin at one place and whose sets at another
abbrev pub property_at : Kind → ℕ → ℕ → List ℤ → List ℕ → Prop
property_at Min num set nums sets = Num (slice_index_or nums num (pos 0))
property_at Max num set nums sets = Num (slice_index_or nums num (pos 0))
property_at Interval num set nums sets = Pair (slice_index_or nums num (pos 0)) (slice_index_or nums (num + 1) (pos 0))
property_at SomeBits num set nums sets = Bits (slice_index_or sets set 0)
property_at AllBits num set nums sets = Bits (slice_index_or sets set 0)

-- the state of a shape whose numbers and sets begin at these places
abbrev pub state_at : List Kind → ℕ → ℕ → List ℤ → List ℕ → List Prop
state_at [] num set nums sets = []
state_at (kind ∷ kinds) num set nums sets = property_at kind num set nums sets ∷ state_at kinds (num + kind_nums kind) (set + kind_sets kind) nums sets
