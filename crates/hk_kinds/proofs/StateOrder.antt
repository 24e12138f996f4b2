-- The order of states is total and tells any two apart.
use Rattle.std.proofs.Common.{◌≡◌, ℤ, List, ap, refl, subst}
use Rattle.std.proofs.Math.Path.{fun_ext}
use Rattle.hk_kinds.specs.contracts.properties.PropOrd.TheImpl.{cmp-value}
use Rattle.std.specs.Cmp.{IsTotalOrder}
use Rattle.std.specs.Cmp.Lexicographic.{slice_cmp}
use Rattle.std.specs.FinMap.{IsAntisymmetric, int_cmp-IsAntisymmetric, nat_cmp-IsAntisymmetric, slice_cmp-IsAntisymmetric}
use Rattle.std.specs.Ordering.{int_cmp, ordering_then}
use Rattle.std.specs.declared.cmp.Ordering.{Ordering}
use Rattle.std.specs.declared.cmp.Ordering.TheVariants.{Less, Equal, Greater}
use Rattle.std.proofs.lemmas.Cmp.{lists_total}
use Rattle.hk_kinds.specs.Orders.{property_order, state_order}
use Rattle.hk_kinds.specs.contracts.properties.PropOrd.TheImpl.Laws.{total-law}
use Rattle.hk_kinds.specs.declared.properties.Prop.{Prop}
use Rattle.hk_kinds.specs.declared.properties.Prop.TheVariants.{Num, Pair, Bits}

derived_is : (p q : Prop) → cmp-value.it p q ≡ property_order p q
derived_is (Num _) (Num _) = refl
derived_is (Num _) (Pair _ _) = refl
derived_is (Num _) (Bits _) = refl
derived_is (Pair _ _) (Num _) = refl
derived_is (Pair _ _) (Pair _ _) = refl
derived_is (Pair _ _) (Bits _) = refl
derived_is (Bits _) (Num _) = refl
derived_is (Bits _) (Pair _ _) = refl
derived_is (Bits _) (Bits _) = refl

derived_order : cmp-value.it ≡ property_order
derived_order = fun_ext (λ p. fun_ext (λ q. derived_is p q))

-- lists in the order that is derived are in the order of states
pub derived_states : (mine theirs : List Prop) → slice_cmp cmp-value.it mine theirs ≡ state_order mine theirs
derived_states mine theirs = ap (λ order. slice_cmp order mine theirs) derived_order

property_total : IsTotalOrder property_order
property_total = subst IsTotalOrder derived_order total-law

both_equal : (first second : Ordering) → ordering_then first second ≡ Equal → (first ≡ Equal) × (second ≡ Equal)
both_equal Less second h = cc
both_equal Equal second h = (refl, h)
both_equal Greater second h = cc

same_pair : (a b c d : ℤ) → a ≡ c → b ≡ d → Pair a b ≡ Pair c d
same_pair a b c d h k = cc

pairs_apart : (a b c d : ℤ) → ordering_then (int_cmp a c) (int_cmp b d) ≡ Equal → Pair a b ≡ Pair c d
pairs_apart a b c d h =
    let both = both_equal (int_cmp a c) (int_cmp b d) h in
    same_pair a b c d (int_cmp-IsAntisymmetric a c both.0) (int_cmp-IsAntisymmetric b d both.1)

property_apart : IsAntisymmetric property_order
property_apart (Num a) (Num b) h = ap Num (int_cmp-IsAntisymmetric a b h)
property_apart (Pair a b) (Pair c d) h = pairs_apart a b c d h
property_apart (Bits a) (Bits b) h = ap Bits (nat_cmp-IsAntisymmetric a b h)
property_apart (Num _) (Pair _ _) h = cc
property_apart (Num _) (Bits _) h = cc
property_apart (Pair _ _) (Num _) h = cc
property_apart (Pair _ _) (Bits _) h = cc
property_apart (Bits _) (Num _) h = cc
property_apart (Bits _) (Pair _ _) h = cc

pub state_total : IsTotalOrder state_order
state_total = lists_total property_total

pub state_apart : IsAntisymmetric state_order
state_apart = slice_cmp-IsAntisymmetric property_apart
