-- Distinct states in their order, and the place of each state among them.
use Rattle.std.specs.Prelude.{◌≡◌, ℕ, ◌<◌, List, [], ◌∷◌, length, slice_index, slice_index_or}
use Rattle.std.specs.declared.cmp.Ordering.{Ordering}
use Rattle.std.specs.declared.cmp.Ordering.TheVariants.{Less, Equal, Greater}
use Rattle.hk_kinds.specs.Orders.{state_order}
use Rattle.hk_kinds.specs.declared.properties.Prop.{Prop}

-- a state put before the first of a list, in place of it or behind it, by their order;
-- the last argument is the rest of the list with the state in it
abbrev pub put_by : Ordering → List Prop → List Prop → List (List Prop) → List (List Prop) → List (List Prop)
put_by Less state first rest later = state ∷ (first ∷ rest)
put_by Equal state first rest later = first ∷ rest
put_by Greater state first rest later = first ∷ later

-- an ascending list with the state in it, which has each state once
abbrev pub insert_state : List Prop → List (List Prop) → List (List Prop)
insert_state state [] = state ∷ []
insert_state state (first ∷ rest) = put_by (state_order state first) state first rest (insert_state state rest)

-- the states of a list, in their order and each once
abbrev pub distinct_states : List (List Prop) → List (List Prop)
distinct_states [] = []
distinct_states (state ∷ states) = insert_state state (distinct_states states)

-- each state comes before the next one in the order of states
pub data Ascends : List (List Prop) → Type 0 where
  ascends_none : Ascends []
  ascends_one : {state : List Prop} → Ascends (state ∷ [])
  ascends_more : {state next : List Prop} {states : List (List Prop)} → state_order state next ≡ Less → Ascends (next ∷ states) → Ascends (state ∷ (next ∷ states))

-- the place that is noted for the row of a number is one of the steps, where the row's state stands
pub record IsPlacedAt (rows steps : List (List Prop)) (places : List ℕ) (number : ℕ) : Type 0 where
  pub within : slice_index places number < length steps
  pub same : slice_index_or steps (slice_index places number) [] ≡ slice_index_or rows number []

-- a place is noted for each row: that of its state among the steps
pub record IsPlaced (rows steps : List (List Prop)) (places : List ℕ) : Type 0 where
  pub long : length places ≡ length rows
  pub each : (number : ℕ) → number < length rows → IsPlacedAt rows steps places number
