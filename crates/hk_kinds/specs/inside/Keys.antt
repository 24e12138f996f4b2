-- Keys, by which the rows of a list of states are sorted: each is a state and its row's number.
use Rattle.std.specs.Prelude.{◌≡◌, ℕ, ◌+◌, ◌-◌, ◌<◌, List, [], length, map, slice_index, slice_index_or}
use Rattle.std.specs.declared.cmp.Ordering.TheVariants.{Less}
use Rattle.hk_kinds.specs.Orders.{state_order}
use Rattle.hk_kinds.specs.declared.keys.Key.{Key}
use Rattle.hk_kinds.specs.declared.properties.Prop.{Prop}

-- the key is that of the row of this number
pub record IsKeyOf (rows : List (List Prop)) (k : ℕ) (key : Key) : Type 0 where
  pub number : key.number ≡ k
  pub state : key.state.now ≡ slice_index_or rows k []

-- the keys are those of so many rows, in the order of the rows
pub record AreKeysOf (rows : List (List Prop)) (count : ℕ) (keys : List Key) : Type 0 where
  pub long : length keys ≡ count
  pub each : (k : ℕ) (other : Key) → k < count → IsKeyOf rows k (slice_index_or keys k other)

-- the numbers of the keys
abbrev pub key_numbers : List Key → List ℕ
key_numbers keys = map (λ (key : Key). key.number) keys

-- the row that is picked by the number at a place
abbrev pub picked_at : List (List Prop) → List ℕ → ℕ → List Prop
picked_at rows numbers k = slice_index_or rows (slice_index numbers k) []

-- the number stands somewhere among these
pub record IsNumbered (numbers : List ℕ) (number : ℕ) : Type 0 where
  pub place : ℕ
  pub within : place < length numbers
  pub same : slice_index numbers place ≡ number

-- these are the numbers of all rows, and none of the rows that they pick is followed by a lesser one
pub record IsSorting (rows : List (List Prop)) (numbers : List ℕ) : Type 0 where
  pub long : length numbers ≡ length rows
  pub below : (k : ℕ) → k < length numbers → slice_index numbers k < length rows
  pub all : (number : ℕ) → number < length rows → IsNumbered numbers number
  pub sorted : (k : ℕ) → k + 1 < length numbers → state_order (picked_at rows numbers (k + 1)) (picked_at rows numbers k) ≡ Less → ⊥

-- the state is the last one of the list
pub record IsLast (state : List Prop) (states : List (List Prop)) : Type 0 where
  pub some : 0 < length states
  pub same : slice_index_or states (length states - 1) [] ≡ state
