-- Joins of states of one shape cover all that they join.
use Rattle.std.proofs.Common.{◌≡◌, List, [], ◌∷◌, Some, refl, subst}
use Rattle.hk_kinds.specs.Covers.{StateCovers}
use Rattle.hk_kinds.specs.Joins.{state_join}
use Rattle.hk_kinds.specs.Shapes.{HasShape}
use Rattle.hk_kinds.specs.declared.kinds.Kind.{Kind}
use Rattle.hk_kinds.specs.declared.properties.Prop.{Prop}
use Rattle.hk_kinds.proofs.StateLaws.{state_lattice, HasShape-join, to_StateCovers, from_StateCovers}
use Rattle.hk_table.specs.Members.{Member, first, later}
use Rattle.hk_layers.specs.Layers.{join_onto, join_states, joined_up}

-- all states of a list have the shape
pub record AreShaped (kinds : List Kind) (states : List (List Prop)) : Type 0 where
  pub each : (state : List Prop) → Member state states → HasShape kinds state

pub shaped_rest : (kinds : List Kind) (state : List Prop) (states : List (List Prop)) → AreShaped kinds (state ∷ states) → AreShaped kinds states
shaped_rest kinds state states h = record { each = λ s m. h.each s (later m) }

pub covers_itself : (kinds : List Kind) (a : List Prop) → HasShape kinds a → StateCovers kinds a a
covers_itself kinds a h = to_StateCovers kinds a a ((state_lattice kinds).reflexive a h)

pub covers_along : (kinds : List Kind) (a b c : List Prop) → HasShape kinds a → HasShape kinds b → HasShape kinds c → StateCovers kinds a b → StateCovers kinds b c → StateCovers kinds a c
covers_along kinds a b c h k l m n = to_StateCovers kinds a c ((state_lattice kinds).transitive a b c h k l (from_StateCovers kinds a b m) (from_StateCovers kinds b c n))

pub join_covers_one : (kinds : List Kind) (a b : List Prop) → HasShape kinds a → HasShape kinds b → StateCovers kinds (state_join kinds a b) a
join_covers_one kinds a b h k = to_StateCovers kinds (state_join kinds a b) a ((state_lattice kinds).covers_first a b h k)

pub join_covers_other : (kinds : List Kind) (a b : List Prop) → HasShape kinds a → HasShape kinds b → StateCovers kinds (state_join kinds a b) b
join_covers_other kinds a b h k = to_StateCovers kinds (state_join kinds a b) b ((state_lattice kinds).covers_second a b h k)

-- ---- states joined onto one

pub onto_has_shape : (kinds : List Kind) (state : List Prop) (states : List (List Prop)) → HasShape kinds state → AreShaped kinds states → HasShape kinds (join_onto kinds state states)
onto_has_shape kinds state [] h hs = h
onto_has_shape kinds state (next ∷ states) h hs = onto_has_shape kinds (state_join kinds state next) states (HasShape-join kinds state next h (hs.each next first)) (shaped_rest kinds next states hs)

pub onto_covers_start : (kinds : List Kind) (state : List Prop) (states : List (List Prop)) → HasShape kinds state → AreShaped kinds states → StateCovers kinds (join_onto kinds state states) state
onto_covers_start kinds state [] h hs = covers_itself kinds state h
onto_covers_start kinds state (next ∷ states) h hs =
    let k = hs.each next first in
    let both = HasShape-join kinds state next h k in
    let more = shaped_rest kinds next states hs in
    covers_along kinds _ (state_join kinds state next) state (onto_has_shape kinds (state_join kinds state next) states both more) both h
    (onto_covers_start kinds (state_join kinds state next) states both more) (join_covers_one kinds state next h k)

pub onto_covers : (kinds : List Kind) (state : List Prop) (states : List (List Prop)) (s : List Prop) → HasShape kinds state → AreShaped kinds states → Member s states → StateCovers kinds (join_onto kinds state states) s
onto_covers kinds state [] s h hs m = elim m [ ]
onto_covers kinds state (next ∷ states) s h hs first =
    let k = hs.each next first in
    let both = HasShape-join kinds state next h k in
    let more = shaped_rest kinds next states hs in
    covers_along kinds _ (state_join kinds state next) next (onto_has_shape kinds (state_join kinds state next) states both more) both k
    (onto_covers_start kinds (state_join kinds state next) states both more) (join_covers_other kinds state next h k)
onto_covers kinds state (next ∷ states) s h hs (later m) =
    onto_covers kinds (state_join kinds state next) states s (HasShape-join kinds state next h (hs.each next first)) (shaped_rest kinds next states hs) m

-- ---- states joined, of which there is one

pub join_has_shape : (kinds : List Kind) (states : List (List Prop)) (s : List Prop) → Member s states → AreShaped kinds states → HasShape kinds (join_states kinds states)
join_has_shape kinds [] s m hs = elim m [ ]
join_has_shape kinds (state ∷ states) s m hs = onto_has_shape kinds state states (hs.each state first) (shaped_rest kinds state states hs)

pub join_covers : (kinds : List Kind) (states : List (List Prop)) (s : List Prop) → Member s states → AreShaped kinds states → StateCovers kinds (join_states kinds states) s
join_covers kinds [] s m hs = elim m [ ]
join_covers kinds (state ∷ states) s first hs = onto_covers_start kinds state states (hs.each state first) (shaped_rest kinds state states hs)
join_covers kinds (state ∷ states) s (later m) hs = onto_covers kinds state states s (hs.each state first) (shaped_rest kinds state states hs) m

-- ---- up states, of which there may be none

pub joined_up_is : (kinds : List Kind) (states : List (List Prop)) (s : List Prop) → Member s states → joined_up kinds states ≡ Some (join_states kinds states)
joined_up_is kinds [] s m = elim m [ ]
joined_up_is kinds (state ∷ states) s m = refl

pub joined_up_has_shape : (kinds : List Kind) (states : List (List Prop)) (up : List Prop) → AreShaped kinds states → joined_up kinds states ≡ Some up → HasShape kinds up
joined_up_has_shape kinds [] up hs is = cc
joined_up_has_shape kinds (state ∷ states) up hs is =
    let same : join_onto kinds state states ≡ up = cc in
    subst (HasShape kinds) same (join_has_shape kinds (state ∷ states) state first hs)

-- a state that is joined
pub record HasState (states : List (List Prop)) : Type 0 where
  pub state : List Prop
  pub stands : Member state states

-- an up state is the join of some
pub joined_up_of : (kinds : List Kind) (states : List (List Prop)) (up : List Prop) → joined_up kinds states ≡ Some up → HasState states
joined_up_of kinds [] up is = cc
joined_up_of kinds (state ∷ states) up is = record { state = state; stands = first }
