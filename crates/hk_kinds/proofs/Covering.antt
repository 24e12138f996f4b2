-- To cover goes along, of any properties and states, also of those that have no shape.
use Rattle.std.proofs.Common.{ℕ, ℤ, ◌≤ℤ◌, List, arith}
use Rattle.std.proofs.lemmas.Int.{ints}
use Rattle.hk_kinds.specs.Covers.{PropertyCovers, covers_min, covers_max, covers_interval, covers_some, covers_all, StateCovers, covers_none, covers_more}
use Rattle.hk_kinds.specs.Sets.{IsSubset}
use Rattle.hk_kinds.specs.declared.kinds.Kind.{Kind}
use Rattle.hk_kinds.specs.declared.properties.Prop.{Prop}

number_along : (a b c : ℤ) → a ≤ℤ b → b ≤ℤ c → a ≤ℤ c
number_along a b c h k = omega (arith, ints)

pub subset_along : {a b c : ℕ} → IsSubset a b → IsSubset b c → IsSubset a c
subset_along h k = record { within = λ value has. k.within value (h.within value has) }

property_along : {kind : Kind} {p q r : Prop} → PropertyCovers kind p q → PropertyCovers kind q r → PropertyCovers kind p r
property_along (covers_min h) (covers_min k) = covers_min (number_along _ _ _ h k)
property_along (covers_max h) (covers_max k) = covers_max (number_along _ _ _ k h)
property_along (covers_interval h i) (covers_interval k j) = covers_interval (number_along _ _ _ h k) (number_along _ _ _ j i)
property_along (covers_some h) (covers_some k) = covers_some (subset_along k h)
property_along (covers_all h) (covers_all k) = covers_all (subset_along h k)

pub state_along : {kinds : List Kind} {a b c : List Prop} → StateCovers kinds a b → StateCovers kinds b c → StateCovers kinds a c
state_along covers_none covers_none = covers_none
state_along (covers_more h hs) (covers_more k ks) = covers_more (property_along h k) (state_along hs ks)
