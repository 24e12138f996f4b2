-- Distinct states ascend, have the members of the list that they are taken from, and are the only such list.
use Rattle.std.proofs.Common.{◌≡◌, ℕ, zero, suc, ◌+◌, ◌<◌, ◌≤◌, ◌⊎◌, inl, inr, ◌↔◌, List, [], ◌∷◌, length, get_or, arith, ap, refl, sym, ◌∙◌, subst}
use Rattle.std.specs.List.{Contains}
use Rattle.std.specs.Ordering.{ordering_reverse}
use Rattle.std.specs.declared.cmp.Ordering.{Ordering}
use Rattle.std.specs.declared.cmp.Ordering.TheVariants.{Less, Equal, Greater}
use Rattle.std.proofs.lemmas.List.{get_or_default}
use Rattle.std.proofs.lemmas.Cmp.{tied_itself}
use Rattle.hk_kinds.specs.Distinct.{put_by, insert_state, distinct_states, Ascends, ascends_none, ascends_one, ascends_more}
use Rattle.hk_kinds.specs.Orders.{state_order}
use Rattle.hk_kinds.specs.declared.properties.Prop.{Prop}
use Rattle.hk_kinds.proofs.StateOrder.{state_total, state_apart}

-- each state of the list comes after this one
pub data Above (state : List Prop) : List (List Prop) → Type 0 where
  above_none : Above state []
  above_more : {first : List Prop} {rest : List (List Prop)} → state_order state first ≡ Less → Above state rest → Above state (first ∷ rest)

-- each state comes before all that follow it
pub data Rises : List (List Prop) → Type 0 where
  rises_none : Rises []
  rises_more : {first : List Prop} {rest : List (List Prop)} → Above first rest → Rises rest → Rises (first ∷ rest)

-- the state stands in the list
pub data IsIn (state : List Prop) : List (List Prop) → Type 0 where
  is_first : {rest : List (List Prop)} → IsIn state (state ∷ rest)
  is_later : {first : List Prop} {rest : List (List Prop)} → IsIn state rest → IsIn state (first ∷ rest)

pub greater_turned : (a b : List Prop) → state_order a b ≡ Greater → state_order b a ≡ Less
greater_turned a b h = state_total.antisymm b a ∙ ap ordering_reverse h

pub less_turned : (a b : List Prop) → state_order a b ≡ Less → state_order b a ≡ Greater
less_turned a b h = state_total.antisymm b a ∙ ap ordering_reverse h

-- no state comes before itself
pub never_less : (a b : List Prop) → a ≡ b → state_order a b ≡ Less → ⊥
never_less a b same h =
    let tied : state_order a b ≡ Equal = ap (state_order a) (sym same) ∙ tied_itself state_total a in
    cc

above_along : (a b : List Prop) (states : List (List Prop)) → state_order a b ≡ Less → Above b states → Above a states
above_along a b _ h above_none = above_none
above_along a b _ h (above_more {first = first} {rest = rest} k more) = above_more (state_total.trans a b first h k) (above_along a b rest h more)

-- what stands in a list comes after what is before all of it
pub above_in : (a b : List Prop) (states : List (List Prop)) → Above a states → IsIn b states → state_order a b ≡ Less
above_in a b _ above_none m = elim m [ ]
above_in a b _ (above_more h more) is_first = h
above_in a b _ (above_more {rest = rest} h more) (is_later m) = above_in a b rest more m

pub rises_from_ascends : (states : List (List Prop)) → Ascends states → Rises states
rises_from_ascends _ ascends_none = rises_none
rises_from_ascends _ ascends_one = rises_more above_none rises_none
rises_from_ascends _ (ascends_more {state = state} {next = next} h more) = rises_next state next _ h (rises_from_ascends _ more)
  where
    rises_next : (state next : List Prop) (states : List (List Prop)) → state_order state next ≡ Less → Rises (next ∷ states) → Rises (state ∷ (next ∷ states))
    rises_next state next states h (rises_more above rises) = rises_more (above_more h (above_along state next states h above)) (rises_more above rises)

pub ascends_from_rises : (states : List (List Prop)) → Rises states → Ascends states
ascends_from_rises _ rises_none = ascends_none
ascends_from_rises _ (rises_more above_none rises_none) = ascends_one
ascends_from_rises _ (rises_more (above_more h _) more) = ascends_more h (ascends_from_rises _ more)

-- ---- a state that is put in

above_put : (o : Ordering) (a state first : List Prop) (rest later : List (List Prop)) → state_order a state ≡ Less → Above a (first ∷ rest) → Above a later → Above a (put_by o state first rest later)
above_put Less a state first rest later h old new = above_more h old
above_put Equal a state first rest later h old new = old
above_put Greater a state first rest later h (above_more k more) new = above_more k new

above_insert : (a state : List Prop) (states : List (List Prop)) → state_order a state ≡ Less → Above a states → Above a (insert_state state states)
above_insert a state [] h above_none = above_more h above_none
above_insert a state (first ∷ rest) h (above_more k more) = above_put (state_order state first) a state first rest (insert_state state rest) h (above_more k more) (above_insert a state rest h more)

rises_put : (o : Ordering) (state first : List Prop) (rest later : List (List Prop)) → o ≡ state_order state first → Rises (first ∷ rest) → (state_order first state ≡ Less → Above first later) → Rises later → Rises (put_by o state first rest later)
rises_put Less state first rest later h (rises_more above more) _ _ = rises_more (above_more (sym h) (above_along state first rest (sym h) above)) (rises_more above more)
rises_put Equal state first rest later h old _ _ = old
rises_put Greater state first rest later h _ above new = rises_more (above (greater_turned state first (sym h))) new

rises_insert : (state : List Prop) (states : List (List Prop)) → Rises states → Rises (insert_state state states)
rises_insert state [] _ = rises_more above_none rises_none
rises_insert state (first ∷ rest) (rises_more above more) = rises_put (state_order state first) state first rest (insert_state state rest) refl (rises_more above more) (λ h. above_insert first state rest h above) (rises_insert state rest more)

pub distinct_rises : (states : List (List Prop)) → Rises (distinct_states states)
distinct_rises [] = rises_none
distinct_rises (state ∷ states) = rises_insert state (distinct_states states) (distinct_rises states)

pub distinct_ascends : (states : List (List Prop)) → Ascends (distinct_states states)
distinct_ascends states = ascends_from_rises _ (distinct_rises states)

-- ---- members

put_has : (o : Ordering) (state first : List Prop) (rest later : List (List Prop)) → o ≡ state_order state first → IsIn state later → IsIn state (put_by o state first rest later)
put_has Less state first rest later h new = is_first
put_has Equal state first rest later h new = subst (λ s. IsIn state (s ∷ rest)) (state_apart state first (sym h)) is_first
put_has Greater state first rest later h new = is_later new

insert_has : (state : List Prop) (states : List (List Prop)) → IsIn state (insert_state state states)
insert_has state [] = is_first
insert_has state (first ∷ rest) = put_has (state_order state first) state first rest (insert_state state rest) refl (insert_has state rest)

put_keeps : (o : Ordering) (a state first : List Prop) (rest later : List (List Prop)) → IsIn a (first ∷ rest) → (IsIn a rest → IsIn a later) → IsIn a (put_by o state first rest later)
put_keeps Less a state first rest later old new = is_later old
put_keeps Equal a state first rest later old new = old
put_keeps Greater a state first rest later is_first new = is_first
put_keeps Greater a state first rest later (is_later m) new = is_later (new m)

insert_keeps : (a state : List Prop) (states : List (List Prop)) → IsIn a states → IsIn a (insert_state state states)
insert_keeps a state [] old = elim old [ ]
insert_keeps a state (first ∷ rest) old = put_keeps (state_order state first) a state first rest (insert_state state rest) old (insert_keeps a state rest)

later_or : (a state first : List Prop) (rest : List (List Prop)) → (a ≡ state) ⊎ IsIn a rest → (a ≡ state) ⊎ IsIn a (first ∷ rest)
later_or a state first rest (inl same) = inl same
later_or a state first rest (inr m) = inr (is_later m)

put_only : (o : Ordering) (a state first : List Prop) (rest later : List (List Prop)) → IsIn a (put_by o state first rest later) → (IsIn a later → (a ≡ state) ⊎ IsIn a rest) → (a ≡ state) ⊎ IsIn a (first ∷ rest)
put_only Less a state first rest later is_first _ = inl refl
put_only Less a state first rest later (is_later m) _ = inr m
put_only Equal a state first rest later m _ = inr m
put_only Greater a state first rest later is_first _ = inr is_first
put_only Greater a state first rest later (is_later m) only = later_or a state first rest (only m)

insert_only : (a state : List Prop) (states : List (List Prop)) → IsIn a (insert_state state states) → (a ≡ state) ⊎ IsIn a states
insert_only a state [] is_first = inl refl
insert_only a state [] (is_later m) = inr m
insert_only a state (first ∷ rest) m = put_only (state_order state first) a state first rest (insert_state state rest) m (insert_only a state rest)

pub distinct_has : (a : List Prop) (states : List (List Prop)) → IsIn a states → IsIn a (distinct_states states)
distinct_has a [] m = elim m [ ]
distinct_has a (state ∷ states) is_first = insert_has a (distinct_states states)
distinct_has a (state ∷ states) (is_later m) = insert_keeps a state (distinct_states states) (distinct_has a states m)

in_cons : (a state : List Prop) (states more : List (List Prop)) → (a ≡ state) ⊎ IsIn a more → (IsIn a more → IsIn a states) → IsIn a (state ∷ states)
in_cons a state states more (inl same) _ = subst (λ s. IsIn a (s ∷ states)) same is_first
in_cons a state states more (inr m) only = is_later (only m)

pub distinct_only : (a : List Prop) (states : List (List Prop)) → IsIn a (distinct_states states) → IsIn a states
distinct_only a [] m = m
distinct_only a (state ∷ states) m = in_cons a state states (distinct_states states) (insert_only a state (distinct_states states) m) (distinct_only a states)

-- ---- the only such list

first_or : (a first : List Prop) (rest : List (List Prop)) → IsIn a (first ∷ rest) → (a ≡ first) ⊎ IsIn a rest
first_or a first rest is_first = inl refl
first_or a first rest (is_later m) = inr m

-- the first of two rising lists with the same members are one
same_first : (a b : List Prop) (xs ys : List (List Prop)) → Above a xs → Above b ys → (a ≡ b) ⊎ IsIn a ys → (b ≡ a) ⊎ IsIn b xs → a ≡ b
same_first a b xs ys above_a above_b (inl same) _ = same
same_first a b xs ys above_a above_b (inr m) (inl same) = sym same
same_first a b xs ys above_a above_b (inr m) (inr n) = absurd (never_less a a refl (state_total.trans a b a (above_in a b xs above_a n) (above_in b a ys above_b m)))

-- what stands behind the one first state stands behind the other
in_rest : (a x y : List Prop) (xs ys : List (List Prop)) → Above x xs → x ≡ y → IsIn a xs → (a ≡ y) ⊎ IsIn a ys → IsIn a ys
in_rest a x y xs ys above same m (inl is_y) = absurd (never_less x a (same ∙ sym is_y) (above_in x a xs above m))
in_rest a x y xs ys above same m (inr n) = n

pub same_rising : (xs ys : List (List Prop)) → Rises xs → Rises ys → ((a : List Prop) → IsIn a xs → IsIn a ys) → ((a : List Prop) → IsIn a ys → IsIn a xs) → xs ≡ ys
same_rising [] [] _ _ _ _ = refl
same_rising [] (y ∷ ys) _ _ there back = elim (back y is_first) [ ]
same_rising (x ∷ xs) [] _ _ there back = elim (there x is_first) [ ]
same_rising (x ∷ xs) (y ∷ ys) (rises_more above_x rises_x) (rises_more above_y rises_y) there back =
    let first : x ≡ y = same_first x y xs ys above_x above_y (first_or x y ys (there x is_first)) (first_or y x xs (back y is_first)) in
    let rest : xs ≡ ys = same_rising xs ys rises_x rises_y (λ a m. in_rest a x y xs ys above_x first m (first_or a y ys (there a (is_later m)))) (λ a m. in_rest a y x ys xs above_y (sym first) m (first_or a x xs (back a (is_later m)))) in
    cc

-- lists with the same members have the same distinct states
pub same_distinct : (xs ys : List (List Prop)) → ((a : List Prop) → IsIn a xs → IsIn a ys) → ((a : List Prop) → IsIn a ys → IsIn a xs) → distinct_states xs ≡ distinct_states ys
same_distinct xs ys there back = same_rising _ _ (distinct_rises xs) (distinct_rises ys) (λ a m. distinct_has a ys (there a (distinct_only a xs m))) (λ a m. distinct_has a xs (back a (distinct_only a ys m)))

-- ---- members by their places

pub in_at : (states : List (List Prop)) (k : ℕ) → k < length states → IsIn (get_or states k []) states
in_at [] k lt = absurd (omega arith)
in_at (state ∷ states) zero lt = is_first
in_at (state ∷ states) (suc k) lt = is_later (in_at states k (omega arith))

pub in_from_contains : (a : List Prop) (states : List (List Prop)) → Contains states a → IsIn a states
in_from_contains a states (k, lt, same) = subst (λ s. IsIn s states) (get_or_default states k [] a lt ∙ same) (in_at states k lt)

pub contains_from_in : (a : List Prop) (states : List (List Prop)) → IsIn a states → Contains states a
contains_from_in a _ (is_first {rest = rest}) = (0, omega arith, refl)
contains_from_in a _ (is_later {first = first} {rest = rest} m) = next (contains_from_in a rest m)
  where
    next : Contains rest a → Contains (first ∷ rest) a
    next (k, lt, same) = (suc k, omega arith, same)

pub distinct_members : (states : List (List Prop)) (a : List Prop) → Contains (distinct_states states) a ↔ Contains states a
distinct_members states a = (λ m. contains_from_in a states (distinct_only a states (in_from_contains a _ m)), λ m. contains_from_in a _ (distinct_has a states (in_from_contains a states m)))

pub distinct_alone : (states others : List (List Prop)) → Ascends others → ((a : List Prop) → Contains others a ↔ Contains states a) → others ≡ distinct_states states
distinct_alone states others ascends same = same_rising _ _ (rises_from_ascends others ascends) (distinct_rises states) (λ a m. distinct_has a states (in_from_contains a states ((same a).0 (contains_from_in a others m)))) (λ a m. in_from_contains a others ((same a).1 (contains_from_in a states (distinct_only a states m))))

-- ---- how many

length_put : (o : Ordering) (state first : List Prop) (rest later : List (List Prop)) → length later ≤ length rest + 1 → length (put_by o state first rest later) ≤ length (first ∷ rest) + 1
length_put Less state first rest later le = omega arith
length_put Equal state first rest later le = omega arith
length_put Greater state first rest later le = omega arith

length_insert : (state : List Prop) (states : List (List Prop)) → length (insert_state state states) ≤ length states + 1
length_insert state [] = omega arith
length_insert state (first ∷ rest) = length_put (state_order state first) state first rest (insert_state state rest) (length_insert state rest)

pub length_distinct : (states : List (List Prop)) → length (distinct_states states) ≤ length states
length_distinct [] = omega arith
length_distinct (state ∷ states) = omega (arith, length_insert state (distinct_states states), length_distinct states)
