-- The join of states depends only on which states they are: not on their order, nor on repeats.
use Rattle.std.proofs.Common.{◌≡◌, true, List, [], ◌∷◌, refl}
use Rattle.hk_kinds.specs.Covers.{state_covers}
use Rattle.hk_kinds.specs.Joins.{state_join}
use Rattle.hk_kinds.specs.Shapes.{HasShape}
use Rattle.hk_kinds.specs.declared.kinds.Kind.{Kind}
use Rattle.hk_kinds.specs.declared.properties.Prop.{Prop}
use Rattle.hk_kinds.proofs.DistinctLaws.{IsIn, is_first, is_later}
use Rattle.hk_kinds.proofs.StateLaws.{state_lattice, HasShape-join}
use Rattle.hk_layers.specs.Layers.{join_onto, join_states}

-- each state of the list has the shape
abbrev pub Shaped : List Kind → List (List Prop) → Type 0
Shaped kinds states = (state : List Prop) → IsIn state states → HasShape kinds state

onto_shape : (kinds : List Kind) (state : List Prop) (states : List (List Prop)) → HasShape kinds state → Shaped kinds states → HasShape kinds (join_onto kinds state states)
onto_shape kinds state [] h hs = h
onto_shape kinds state (next ∷ states) h hs = onto_shape kinds (state_join kinds state next) states (HasShape-join kinds state next h (hs next is_first)) (λ s m. hs s (is_later m))

pub join_shape : (kinds : List Kind) (state : List Prop) (states : List (List Prop)) → Shaped kinds (state ∷ states) → HasShape kinds (join_states kinds (state ∷ states))
join_shape kinds state states hs = onto_shape kinds state states (hs state is_first) (λ s m. hs s (is_later m))

-- what covers the join onto a state covers the state
onto_covers_start : (kinds : List Kind) (state : List Prop) (states : List (List Prop)) → HasShape kinds state → Shaped kinds states → state_covers kinds (join_onto kinds state states) state ≡ true
onto_covers_start kinds state [] h hs = (state_lattice kinds).reflexive state h
onto_covers_start kinds state (next ∷ states) h hs =
    let k : HasShape kinds next = hs next is_first in
    let both : HasShape kinds (state_join kinds state next) = HasShape-join kinds state next h k in
    let more : Shaped kinds states = λ s m. hs s (is_later m) in
    (state_lattice kinds).transitive (join_onto kinds (state_join kinds state next) states) (state_join kinds state next) state (onto_shape kinds (state_join kinds state next) states both more) both h
    (onto_covers_start kinds (state_join kinds state next) states both more) ((state_lattice kinds).covers_first state next h k)

onto_covers : (kinds : List Kind) (state : List Prop) (states : List (List Prop)) (s : List Prop) → HasShape kinds state → Shaped kinds states → IsIn s states → state_covers kinds (join_onto kinds state states) s ≡ true
onto_covers kinds state [] s h hs m = elim m [ ]
onto_covers kinds state (next ∷ states) s h hs is_first =
    let k : HasShape kinds next = hs next is_first in
    let both : HasShape kinds (state_join kinds state next) = HasShape-join kinds state next h k in
    let more : Shaped kinds states = λ s m. hs s (is_later m) in
    (state_lattice kinds).transitive (join_onto kinds (state_join kinds state next) states) (state_join kinds state next) next (onto_shape kinds (state_join kinds state next) states both more) both k
    (onto_covers_start kinds (state_join kinds state next) states both more) ((state_lattice kinds).covers_second state next h k)
onto_covers kinds state (next ∷ states) s h hs (is_later m) =
    onto_covers kinds (state_join kinds state next) states s (HasShape-join kinds state next h (hs next is_first)) (λ s m. hs s (is_later m)) m

join_covers : (kinds : List Kind) (state : List Prop) (states : List (List Prop)) (s : List Prop) → Shaped kinds (state ∷ states) → IsIn s (state ∷ states) → state_covers kinds (join_states kinds (state ∷ states)) s ≡ true
join_covers kinds state states s hs is_first = onto_covers_start kinds state states (hs state is_first) (λ s m. hs s (is_later m))
join_covers kinds state states s hs (is_later m) = onto_covers kinds state states s (hs state is_first) (λ s m. hs s (is_later m)) m

-- what covers all that are joined covers the join
onto_least : (kinds : List Kind) (state : List Prop) (states : List (List Prop)) (top : List Prop) → HasShape kinds state → Shaped kinds states → HasShape kinds top → state_covers kinds top state ≡ true → ((s : List Prop) → IsIn s states → state_covers kinds top s ≡ true) → state_covers kinds top (join_onto kinds state states) ≡ true
onto_least kinds state [] top h hs t covers all = covers
onto_least kinds state (next ∷ states) top h hs t covers all =
    let k : HasShape kinds next = hs next is_first in
    onto_least kinds (state_join kinds state next) states top (HasShape-join kinds state next h k) (λ s m. hs s (is_later m)) t ((state_lattice kinds).least state next top h k t covers (all next is_first)) (λ s m. all s (is_later m))

join_least : (kinds : List Kind) (state : List Prop) (states : List (List Prop)) (top : List Prop) → Shaped kinds (state ∷ states) → HasShape kinds top → ((s : List Prop) → IsIn s (state ∷ states) → state_covers kinds top s ≡ true) → state_covers kinds top (join_states kinds (state ∷ states)) ≡ true
join_least kinds state states top hs t all = onto_least kinds state states top (hs state is_first) (λ s m. hs s (is_later m)) t (all state is_first) (λ s m. all s (is_later m))

pub same_join : (kinds : List Kind) (xs ys : List (List Prop)) → Shaped kinds xs → Shaped kinds ys → ((s : List Prop) → IsIn s xs → IsIn s ys) → ((s : List Prop) → IsIn s ys → IsIn s xs) → join_states kinds xs ≡ join_states kinds ys
same_join kinds [] [] hx hy there back = refl
same_join kinds [] (y ∷ ys) hx hy there back = elim (back y is_first) [ ]
same_join kinds (x ∷ xs) [] hx hy there back = elim (there x is_first) [ ]
same_join kinds (x ∷ xs) (y ∷ ys) hx hy there back =
    let one : HasShape kinds (join_states kinds (x ∷ xs)) = join_shape kinds x xs hx in
    let other : HasShape kinds (join_states kinds (y ∷ ys)) = join_shape kinds y ys hy in
    (state_lattice kinds).antisymmetric (join_states kinds (x ∷ xs)) (join_states kinds (y ∷ ys)) one other
    (join_least kinds y ys (join_states kinds (x ∷ xs)) hy one (λ s m. join_covers kinds x xs s hx (back s m)))
    (join_least kinds x xs (join_states kinds (y ∷ ys)) hx other (λ s m. join_covers kinds y ys s hy (there s m)))
