-- Properties of a kind: their join, and when one covers another.
use Rattle.std.proofs.Common.{◌≡◌, ℕ, ℤ, true, ◌≤ℤ◌, ◌<◌, ◌^◌, arith, ap, ◌∙◌, eq-eqb, bit_and, bit_or, int_le, neg_ℤ, ◌-◌, subst, lit<, min, max, inl, inr}
use Rattle.std.proofs.lemmas.Nat.{or_lt, and_le_l}
use Rattle.std.specs.Int.{bit_at}
use Rattle.std.proofs.lemmas.Bool.{cases_lt}
use Rattle.hk_base.specs.Limits.{number_limit}
use Rattle.std.proofs.lemmas.Int.{ints, clamps}
use Rattle.std.proofs.lemmas.Nat.Bits.{bit_at_and, bit_at_or, bit_at_above, bit_at_ones, bit_at-lt, bit_at-zero, same_from_bits}
use Rattle.std.specs.Int.{int_max, int_min}
use Rattle.hk_kinds.specs.Limits.{IsWithinLimit}
use Rattle.hk_base.specs.Sets.{Has}
use Rattle.hk_kinds.specs.Sets.{IsSubset, IsSet}
use Rattle.hk_kinds.specs.Shapes.{IsOfKind, is_min, is_max, is_interval, is_some, is_all}
use Rattle.hk_kinds.specs.Joins.{property_join}
use Rattle.hk_kinds.specs.Covers.{PropertyCovers, covers_min, covers_max, covers_interval, covers_some, covers_all, property_covers}
use Rattle.hk_kinds.specs.NumberLattices.{le_itself, le_along, le_both_ways, min_below_first, min_below_second, min_greatest, max_above_first, max_above_second, max_least, both_true, first_true, second_true}
use Rattle.hk_kinds.specs.SetLattices.{or_itself, or_comm, or_assoc, and_itself, and_comm, and_assoc, join_covers_first, join_covers_second, join_least, join_along, join_both_ways, eqb-eq}
use Rattle.hk_kinds.specs.Tops.{top_property}
use Rattle.hk_kinds.specs.declared.kinds.Kind.{Kind}
use Rattle.hk_kinds.specs.declared.kinds.Kind.TheVariants.{Min, Max, Interval, SomeBits, AllBits}
use Rattle.hk_kinds.specs.declared.properties.Prop.{Prop}
use Rattle.hk_kinds.specs.declared.properties.Prop.TheVariants.{Num, Pair, Bits}

pub to_le : (a b : ℤ) → int_le a b ≡ true → a ≤ℤ b
to_le a b h = grind (arith, ints)

pub from_le : (a b : ℤ) → a ≤ℤ b → int_le a b ≡ true
from_le a b h = grind (arith, ints)

pub min_within : (a b : ℤ) → IsWithinLimit a → IsWithinLimit b → IsWithinLimit (int_min a b)
min_within a b h k = record { least = omega (arith, ints, clamps); most = omega (arith, ints, clamps) }

pub max_within : (a b : ℤ) → IsWithinLimit a → IsWithinLimit b → IsWithinLimit (int_max a b)
max_within a b h k = record { least = omega (arith, ints, clamps); most = omega (arith, ints, clamps) }

and_within : (a b : ℕ) → IsSet a → IsSet (bit_and a b)
and_within a b h = omega (arith, and_le_l a b)

pub least_within : IsWithinLimit (neg_ℤ number_limit)
least_within = record { least = omega (arith, ints); most = omega (arith, ints) }

pub most_within : IsWithinLimit number_limit
most_within = record { least = omega (arith, ints); most = omega (arith, ints) }

-- the set of all values has each value of a set
in_all_values : (set value : ℕ) → IsSet set → Has set value → Has (2 ^ 128 - 1) value
in_all_values set value h has =
    elim (cases_lt value 128) [ inl below ↦ bit_at_ones 128 value below | inr above ↦ absurd (omega (arith, bit_at_above set 128 value h above)) ]

not_in_none : (set value : ℕ) → Has 0 value → Has set value
not_in_none set value has = absurd (omega (arith, bit_at-zero value))

subset_from_or : (a b : ℕ) → bit_or a b ≡ a → IsSubset b a
subset_from_or a b h = record { within = λ v has. omega (arith, bit_at_or a b v, ap (λ x. bit_at x v) h, bit_at-lt a v, bit_at-lt b v) }

subset_from_and : (a b : ℕ) → bit_and a b ≡ a → IsSubset a b
subset_from_and a b h = record { within = λ v has. omega (arith, bit_at_and a b v, ap (λ x. bit_at x v) h, bit_at-lt a v, bit_at-lt b v) }

max_left : (m n : ℕ) → n < 2 → (n ≡ 1 → m ≡ 1) → max m n ≡ m
max_left m n h k = grind arith

min_left : (m n : ℕ) → m < 2 → (m ≡ 1 → n ≡ 1) → min m n ≡ m
min_left m n h k = grind arith

or_from_subset : (a b : ℕ) → IsSubset b a → bit_or a b ≡ a
or_from_subset a b h = same_from_bits _ _ (λ i. bit_at_or a b i ∙ max_left _ _ (bit_at-lt b i) (h.within i))

and_from_subset : (a b : ℕ) → IsSubset a b → bit_and a b ≡ a
and_from_subset a b h = same_from_bits _ _ (λ i. bit_at_and a b i ∙ min_left _ _ (bit_at-lt a i) (h.within i))

pub covers_first : (kind : Kind) (a b : Prop) → IsOfKind kind a → IsOfKind kind b → property_covers kind (property_join kind a b) a ≡ true
covers_first _ _ _ (is_min {n = a} _) (is_min {n = b} _) = min_below_first a b
covers_first _ _ _ (is_max {n = a} _) (is_max {n = b} _) = max_above_first a b
covers_first _ _ _ (is_interval {low = a} {high = b} _ _) (is_interval {low = c} {high = d} _ _) = both_true _ _ (min_below_first a c) (max_above_first b d)
covers_first _ _ _ (is_some {set = a} _) (is_some {set = b} _) = eq-eqb _ _ (join_covers_first bit_or or_itself or_comm or_assoc a b)
covers_first _ _ _ (is_all {set = a} _) (is_all {set = b} _) = eq-eqb _ _ (join_covers_first bit_and and_itself and_comm and_assoc a b)

pub covers_second : (kind : Kind) (a b : Prop) → IsOfKind kind a → IsOfKind kind b → property_covers kind (property_join kind a b) b ≡ true
covers_second _ _ _ (is_min {n = a} _) (is_min {n = b} _) = min_below_second a b
covers_second _ _ _ (is_max {n = a} _) (is_max {n = b} _) = max_above_second a b
covers_second _ _ _ (is_interval {low = a} {high = b} _ _) (is_interval {low = c} {high = d} _ _) = both_true _ _ (min_below_second a c) (max_above_second b d)
covers_second _ _ _ (is_some {set = a} _) (is_some {set = b} _) = eq-eqb _ _ (join_covers_second bit_or or_itself or_comm or_assoc a b)
covers_second _ _ _ (is_all {set = a} _) (is_all {set = b} _) = eq-eqb _ _ (join_covers_second bit_and and_itself and_comm and_assoc a b)

pub least : (kind : Kind) (a b c : Prop) → IsOfKind kind a → IsOfKind kind b → IsOfKind kind c → property_covers kind c a ≡ true → property_covers kind c b ≡ true → property_covers kind c (property_join kind a b) ≡ true
least _ _ _ _ (is_min {n = a} _) (is_min {n = b} _) (is_min {n = c} _) h k = min_greatest a b c h k
least _ _ _ _ (is_max {n = a} _) (is_max {n = b} _) (is_max {n = c} _) h k = max_least a b c h k
least _ _ _ _ (is_interval {low = a} {high = b} _ _) (is_interval {low = c} {high = d} _ _) (is_interval {low = e} {high = f} _ _) h k = both_true _ _ (min_greatest a c e (first_true _ _ h) (first_true _ _ k)) (max_least b d f (second_true _ _ h) (second_true _ _ k))
least _ _ _ _ (is_some {set = a} _) (is_some {set = b} _) (is_some {set = c} _) h k = eq-eqb _ _ (join_least bit_or or_itself or_comm or_assoc a b c (eqb-eq _ _ h) (eqb-eq _ _ k))
least _ _ _ _ (is_all {set = a} _) (is_all {set = b} _) (is_all {set = c} _) h k = eq-eqb _ _ (join_least bit_and and_itself and_comm and_assoc a b c (eqb-eq _ _ h) (eqb-eq _ _ k))

pub covers_itself : (kind : Kind) (a : Prop) → IsOfKind kind a → property_covers kind a a ≡ true
covers_itself _ _ (is_min {n = a} _) = le_itself a
covers_itself _ _ (is_max {n = a} _) = le_itself a
covers_itself _ _ (is_interval {low = a} {high = b} _ _) = both_true _ _ (le_itself a) (le_itself b)
covers_itself _ _ (is_some {set = a} _) = eq-eqb _ _ (or_itself a)
covers_itself _ _ (is_all {set = a} _) = eq-eqb _ _ (and_itself a)

pub covers_along : (kind : Kind) (a b c : Prop) → IsOfKind kind a → IsOfKind kind b → IsOfKind kind c → property_covers kind a b ≡ true → property_covers kind b c ≡ true → property_covers kind a c ≡ true
covers_along _ _ _ _ (is_min {n = a} _) (is_min {n = b} _) (is_min {n = c} _) h k = le_along a b c h k
covers_along _ _ _ _ (is_max {n = a} _) (is_max {n = b} _) (is_max {n = c} _) h k = le_along c b a k h
covers_along _ _ _ _ (is_interval {low = a} {high = b} _ _) (is_interval {low = c} {high = d} _ _) (is_interval {low = e} {high = f} _ _) h k = both_true _ _ (le_along a c e (first_true _ _ h) (first_true _ _ k)) (le_along f d b (second_true _ _ k) (second_true _ _ h))
covers_along _ _ _ _ (is_some {set = a} _) (is_some {set = b} _) (is_some {set = c} _) h k = eq-eqb _ _ (join_along bit_or or_itself or_comm or_assoc a b c (eqb-eq _ _ h) (eqb-eq _ _ k))
covers_along _ _ _ _ (is_all {set = a} _) (is_all {set = b} _) (is_all {set = c} _) h k = eq-eqb _ _ (join_along bit_and and_itself and_comm and_assoc a b c (eqb-eq _ _ h) (eqb-eq _ _ k))

same_pair : (a b c d : ℤ) → a ≡ c → b ≡ d → Pair a b ≡ Pair c d
same_pair a b c d h k = cc

pub covers_both_ways : (kind : Kind) (a b : Prop) → IsOfKind kind a → IsOfKind kind b → property_covers kind a b ≡ true → property_covers kind b a ≡ true → a ≡ b
covers_both_ways _ _ _ (is_min {n = a} _) (is_min {n = b} _) h k = ap Num (le_both_ways a b h k)
covers_both_ways _ _ _ (is_max {n = a} _) (is_max {n = b} _) h k = ap Num (le_both_ways a b k h)
covers_both_ways _ _ _ (is_interval {low = a} {high = b} _ _) (is_interval {low = c} {high = d} _ _) h k = same_pair _ _ _ _ (le_both_ways a c (first_true _ _ h) (first_true _ _ k)) (le_both_ways b d (second_true _ _ k) (second_true _ _ h))
covers_both_ways _ _ _ (is_some {set = a} _) (is_some {set = b} _) h k = ap Bits (join_both_ways bit_or or_itself or_comm or_assoc a b (eqb-eq _ _ h) (eqb-eq _ _ k))
covers_both_ways _ _ _ (is_all {set = a} _) (is_all {set = b} _) h k = ap Bits (join_both_ways bit_and and_itself and_comm and_assoc a b (eqb-eq _ _ h) (eqb-eq _ _ k))

pub join_of_kind : (kind : Kind) (a b : Prop) → IsOfKind kind a → IsOfKind kind b → IsOfKind kind (property_join kind a b)
join_of_kind _ _ _ (is_min {n = a} h) (is_min {n = b} k) = is_min (min_within a b h k)
join_of_kind _ _ _ (is_max {n = a} h) (is_max {n = b} k) = is_max (max_within a b h k)
join_of_kind _ _ _ (is_interval {low = a} {high = b} h i) (is_interval {low = c} {high = d} k j) = is_interval (min_within a c h k) (max_within b d i j)
join_of_kind _ _ _ (is_some {set = a} h) (is_some {set = b} k) = is_some (or_lt 128 a b h k)
join_of_kind _ _ _ (is_all {set = a} h) (is_all {set = b} k) = is_all (and_within a b h)

pub top_of_kind : (kind : Kind) → IsOfKind kind (top_property kind)
top_of_kind Min = is_min least_within
top_of_kind Max = is_max most_within
top_of_kind Interval = is_interval least_within most_within
top_of_kind SomeBits = is_some (lit< tt)
top_of_kind AllBits = is_all (lit< tt)

pub top_covers : (kind : Kind) (p : Prop) → IsOfKind kind p → PropertyCovers kind (top_property kind) p
top_covers _ _ (is_min h) = covers_min h.least
top_covers _ _ (is_max h) = covers_max h.most
top_covers _ _ (is_interval h k) = covers_interval h.least k.most
top_covers _ _ (is_some {set = a} h) = covers_some (record { within = λ v has. in_all_values a v h has })
top_covers _ _ (is_all {set = a} h) = covers_all (record { within = λ v has. not_in_none a v has })

-- the test of one property says whether it covers another
pub to_property_covers : (kind : Kind) (a b : Prop) → property_covers kind a b ≡ true → PropertyCovers kind a b
to_property_covers Min (Num a) (Num b) h = covers_min (to_le a b h)
to_property_covers Max (Num a) (Num b) h = covers_max (to_le b a h)
to_property_covers Interval (Pair a b) (Pair c d) h = covers_interval (to_le a c (first_true _ _ h)) (to_le d b (second_true _ _ h))
to_property_covers SomeBits (Bits a) (Bits b) h = covers_some (subset_from_or a b (eqb-eq _ _ h))
to_property_covers AllBits (Bits a) (Bits b) h = covers_all (subset_from_and a b (eqb-eq _ _ h))
to_property_covers _ _ _ h = cc

pub from_property_covers : (kind : Kind) (a b : Prop) → PropertyCovers kind a b → property_covers kind a b ≡ true
from_property_covers _ _ _ (covers_min {a = a} {b = b} h) = from_le a b h
from_property_covers _ _ _ (covers_max {a = a} {b = b} h) = from_le b a h
from_property_covers _ _ _ (covers_interval {a = a} {b = b} {c = c} {d = d} h k) = both_true _ _ (from_le a c h) (from_le d b k)
from_property_covers _ _ _ (covers_some {a = a} {b = b} h) = eq-eqb _ _ (or_from_subset a b h)
from_property_covers _ _ _ (covers_all {a = a} {b = b} h) = eq-eqb _ _ (and_from_subset a b h)

-- a property covers another of its kind exactly where the join with it is this property
pub covers-join : (kind : Kind) (a b : Prop) → IsOfKind kind a → IsOfKind kind b → property_covers kind a b ≡ true → property_join kind a b ≡ a
covers-join kind a b h k covers = covers_both_ways kind _ _ (join_of_kind kind a b h k) h (covers_first kind a b h k) (least kind a b a h k h (covers_itself kind a h) covers)

pub join-covers : (kind : Kind) (a b : Prop) → IsOfKind kind a → IsOfKind kind b → property_join kind a b ≡ a → property_covers kind a b ≡ true
join-covers kind a b h k same = subst (λ c. property_covers kind c b ≡ true) same (covers_second kind a b h k)
