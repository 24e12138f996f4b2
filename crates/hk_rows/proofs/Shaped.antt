-- States that have a shape.
use Rattle.std.proofs.Common.{◌≡◌, ℕ, zero, suc, List, [], ◌∷◌, ℤ, ◌<◌, length, slice_index_or, slice_set, arith}
use Rattle.hk_kinds.specs.Limits.{IsWithinLimit}
use Rattle.hk_kinds.specs.Shapes.{HasShape, one_more, IsOfKind, is_min, is_max, is_interval, is_some, is_all}
use Rattle.hk_kinds.specs.Sets.{IsSet}
use Rattle.hk_kinds.specs.declared.kinds.Kind.{Kind}
use Rattle.hk_kinds.specs.declared.kinds.Kind.TheVariants.{Min, Max, Interval, SomeBits, AllBits}
use Rattle.hk_kinds.specs.declared.properties.Prop.{Prop}
use Rattle.hk_kinds.specs.declared.properties.Prop.TheVariants.{Num, Pair, Bits}

-- a state keeps its shape where it gets another property of the kind at its place
pub HasShape-set : (kinds : List Kind) (state : List Prop) (at : ℕ) (property : Prop) (other : Kind) → at < length kinds → HasShape kinds state → IsOfKind (slice_index_or kinds at other) property → HasShape kinds (slice_set state at property)
HasShape-set [] [] at property other less has kind = absurd (omega (arith, less))
HasShape-set [] (_ ∷ state) at property other less has kind = absurd (omega (arith, less))
HasShape-set (_ ∷ kinds) [] at property other less has kind = elim has [ ]
HasShape-set (_ ∷ _) (_ ∷ _) zero property other less (one_more _ more) kind = one_more kind more
HasShape-set (_ ∷ kinds) (_ ∷ state) (suc at) property other less (one_more first more) kind = one_more first (HasShape-set kinds state at property other (omega (arith, less)) more kind)

pub min_is : {kind : Kind} {property : Prop} {n : ℤ} → kind ≡ Min → property ≡ Num n → IsWithinLimit n → IsOfKind kind property
min_is kind_is property_is within = rw (kind_is, property_is) (is_min within)

pub max_is : {kind : Kind} {property : Prop} {n : ℤ} → kind ≡ Max → property ≡ Num n → IsWithinLimit n → IsOfKind kind property
max_is kind_is property_is within = rw (kind_is, property_is) (is_max within)

pub interval_is : {kind : Kind} {property : Prop} {low high : ℤ} → kind ≡ Interval → property ≡ Pair low high → IsWithinLimit low → IsWithinLimit high → IsOfKind kind property
interval_is kind_is property_is low high = rw (kind_is, property_is) (is_interval low high)

pub some_is : {kind : Kind} {property : Prop} {set : ℕ} → kind ≡ SomeBits → property ≡ Bits set → IsSet set → IsOfKind kind property
some_is kind_is property_is set = rw (kind_is, property_is) (is_some set)

pub all_is : {kind : Kind} {property : Prop} {set : ℕ} → kind ≡ AllBits → property ≡ Bits set → IsSet set → IsOfKind kind property
all_is kind_is property_is set = rw (kind_is, property_is) (is_all set)
