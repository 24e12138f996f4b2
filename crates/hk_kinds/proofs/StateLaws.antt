-- States of a shape: their join, and when one covers another.
use Rattle.std.proofs.Common.{◌≡◌, Bool, true, ◌↔◌, List, [], ◌∷◌, length, arith, ap, refl, sym, ◌∙◌, subst, IsTrue, suc}
use Rattle.std.proofs.lemmas.Grind.{common_steps}
use Rattle.std.specs.List.{refill}
use Rattle.hk_kinds.specs.Shapes.{HasShape, no_kinds, one_more}
use Rattle.hk_kinds.specs.Joins.{state_join}
use Rattle.hk_kinds.specs.Covers.{StateCovers, covers_none, covers_more, state_covers}
use Rattle.hk_kinds.specs.Lattices.{IsLattice}
use Rattle.hk_kinds.specs.NumberLattices.{both_true, first_true, second_true}
use Rattle.hk_kinds.specs.Tops.{top_state}
use Rattle.hk_kinds.proofs.PropertyLaws as property
use Rattle.hk_kinds.specs.declared.kinds.Kind.{Kind}
use Rattle.hk_kinds.specs.declared.properties.Prop.{Prop}

-- a state of a shape has as many properties as the shape has kinds
pub length-HasShape : {kinds : List Kind} {state : List Prop} → HasShape kinds state → length state ≡ length kinds
length-HasShape no_kinds = refl
length-HasShape (one_more {kinds = kinds} {properties = properties} _ more) = ap (λ n. suc n) (length-HasShape more)

covers_first : (kinds : List Kind) (a b : List Prop) → HasShape kinds a → HasShape kinds b → state_covers kinds (state_join kinds a b) a ≡ true
covers_first _ _ _ no_kinds no_kinds = refl
covers_first _ _ _ (one_more h hs) (one_more k ks) = both_true _ _ (property.covers_first _ _ _ h k) (covers_first _ _ _ hs ks)

covers_second : (kinds : List Kind) (a b : List Prop) → HasShape kinds a → HasShape kinds b → state_covers kinds (state_join kinds a b) b ≡ true
covers_second _ _ _ no_kinds no_kinds = refl
covers_second _ _ _ (one_more h hs) (one_more k ks) = both_true _ _ (property.covers_second _ _ _ h k) (covers_second _ _ _ hs ks)

least : (kinds : List Kind) (a b c : List Prop) → HasShape kinds a → HasShape kinds b → HasShape kinds c → state_covers kinds c a ≡ true → state_covers kinds c b ≡ true → state_covers kinds c (state_join kinds a b) ≡ true
least _ _ _ _ no_kinds no_kinds no_kinds _ _ = refl
least _ _ _ _ (one_more h hs) (one_more k ks) (one_more l ls) m n = both_true _ _ (property.least _ _ _ _ h k l (first_true _ _ m) (first_true _ _ n)) (least _ _ _ _ hs ks ls (second_true _ _ m) (second_true _ _ n))

covers_itself : (kinds : List Kind) (a : List Prop) → HasShape kinds a → state_covers kinds a a ≡ true
covers_itself _ _ no_kinds = refl
covers_itself _ _ (one_more h hs) = both_true _ _ (property.covers_itself _ _ h) (covers_itself _ _ hs)

covers_along : (kinds : List Kind) (a b c : List Prop) → HasShape kinds a → HasShape kinds b → HasShape kinds c → state_covers kinds a b ≡ true → state_covers kinds b c ≡ true → state_covers kinds a c ≡ true
covers_along _ _ _ _ no_kinds no_kinds no_kinds _ _ = refl
covers_along _ _ _ _ (one_more h hs) (one_more k ks) (one_more l ls) m n = both_true _ _ (property.covers_along _ _ _ _ h k l (first_true _ _ m) (first_true _ _ n)) (covers_along _ _ _ _ hs ks ls (second_true _ _ m) (second_true _ _ n))

same_cons : (a b : Prop) (rest others : List Prop) → a ≡ b → rest ≡ others → (a ∷ rest) ≡ (b ∷ others)
same_cons a b rest others h k = cc

covers_both_ways : (kinds : List Kind) (a b : List Prop) → HasShape kinds a → HasShape kinds b → state_covers kinds a b ≡ true → state_covers kinds b a ≡ true → a ≡ b
covers_both_ways _ _ _ no_kinds no_kinds _ _ = refl
covers_both_ways _ _ _ (one_more h hs) (one_more k ks) m n = same_cons _ _ _ _ (property.covers_both_ways _ _ _ h k (first_true _ _ m) (first_true _ _ n)) (covers_both_ways _ _ _ hs ks (second_true _ _ m) (second_true _ _ n))

pub state_lattice : (kinds : List Kind) → IsLattice (HasShape kinds) (state_join kinds) (state_covers kinds)
state_lattice kinds = record {
  covers_first = covers_first kinds;
  covers_second = covers_second kinds;
  least = least kinds;
  reflexive = covers_itself kinds;
  transitive = covers_along kinds;
  antisymmetric = covers_both_ways kinds;
}

pub HasShape-join : (kinds : List Kind) (a b : List Prop) → HasShape kinds a → HasShape kinds b → HasShape kinds (state_join kinds a b)
HasShape-join _ _ _ no_kinds no_kinds = no_kinds
HasShape-join _ _ _ (one_more h hs) (one_more k ks) = one_more (property.join_of_kind _ _ _ h k) (HasShape-join _ _ _ hs ks)

pub HasShape-top : (kinds : List Kind) → HasShape kinds (top_state kinds)
HasShape-top [] = no_kinds
HasShape-top (kind ∷ kinds) = one_more (property.top_of_kind kind) (HasShape-top kinds)

pub top_covers : (kinds : List Kind) (state : List Prop) → HasShape kinds state → StateCovers kinds (top_state kinds) state
top_covers _ _ no_kinds = covers_none
top_covers _ _ (one_more h hs) = covers_more (property.top_covers _ _ h) (top_covers _ _ hs)

pub to_StateCovers : (kinds : List Kind) (a b : List Prop) → state_covers kinds a b ≡ true → StateCovers kinds a b
to_StateCovers [] [] [] _ = covers_none
to_StateCovers (kind ∷ kinds) (p ∷ ps) (q ∷ qs) h = covers_more (property.to_property_covers kind p q (first_true _ _ h)) (to_StateCovers kinds ps qs (second_true _ _ h))
to_StateCovers _ _ _ h = cc

pub from_StateCovers : (kinds : List Kind) (a b : List Prop) → StateCovers kinds a b → state_covers kinds a b ≡ true
from_StateCovers _ _ _ covers_none = refl
from_StateCovers _ _ _ (covers_more h hs) = both_true _ _ (property.from_property_covers _ _ _ h) (from_StateCovers _ _ _ hs)

-- a state of a shape covers another exactly where the join with it is this state
pub covers-join : (kinds : List Kind) (a b : List Prop) → HasShape kinds a → HasShape kinds b → state_covers kinds a b ≡ true → state_join kinds a b ≡ a
covers-join kinds a b h k covers = covers_both_ways kinds _ _ (HasShape-join kinds a b h k) h (covers_first kinds a b h k) (least kinds a b a h k h (covers_itself kinds a h) covers)

pub join-covers : (kinds : List Kind) (a b : List Prop) → HasShape kinds a → HasShape kinds b → state_join kinds a b ≡ a → state_covers kinds a b ≡ true
join-covers kinds a b h k same = subst (λ c. state_covers kinds c b ≡ true) same (covers_second kinds a b h k)

pub StateCovers-test : (kinds : List Kind) (a b : List Prop) → (state_covers kinds a b ≡ true) ↔ StateCovers kinds a b
StateCovers-test kinds a b = (to_StateCovers kinds a b, from_StateCovers kinds a b)

pub StateCovers-join : (kinds : List Kind) (a b : List Prop) → HasShape kinds a → HasShape kinds b → StateCovers kinds a b ↔ (state_join kinds a b ≡ a)
StateCovers-join kinds a b h k = (λ covers. covers-join kinds a b h k (from_StateCovers kinds a b covers), λ same. to_StateCovers kinds a b (join-covers kinds a b h k same))

-- what an answer of the test says
pub StateCovers-tested : (kinds : List Kind) (a b : List Prop) (answer : Bool) → answer ≡ state_covers kinds a b → IsTrue answer ↔ StateCovers kinds a b
StateCovers-tested kinds a b answer tested = (λ h. to_StateCovers kinds a b (sym tested ∙ h), λ h. tested ∙ from_StateCovers kinds a b h)

pub StateCovers-join_tested : (kinds : List Kind) (a b : List Prop) (answer : Bool) → HasShape kinds a → HasShape kinds b → answer ≡ state_covers kinds a b → IsTrue answer ↔ (state_join kinds a b ≡ a)
StateCovers-join_tested kinds a b answer h k tested = (λ t. covers-join kinds a b h k (sym tested ∙ t), λ same. tested ∙ join-covers kinds a b h k same)

-- as many properties written over those of a state are the state
pub refill_all : (old new : List Prop) → length new ≡ length old → refill (length old) old new ≡ new
refill_all old new h = grind (arith, common_steps)
