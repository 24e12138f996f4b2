-- Keys of rows: their numbers, and what is known of them once they are sorted.
use Rattle.std.proofs.Common.{◌≡◌, ℕ, ◌+◌, ◌<◌, Bool, true, false, List, [], length, get_or, arith, ap, sym, ◌∙◌, subst}
use Rattle.std.proofs.lemmas.List.{get_or-map, length-map, get_or_default}
use Rattle.std.proofs.lemmas.List.Elements.{Contains-get_or}
use Rattle.std.proofs.lemmas.List.Sorted.{All-permutation, Contains-permutation, length_permutation}
use Rattle.std.specs.List.{All, Contains}
use Rattle.std.specs.List.Sorted.{IsPermutation, IsSorted}
use Rattle.std.specs.Ordering.{is_lt, nat_cmp, ordering_then}
use Rattle.std.specs.declared.cmp.Ordering.TheVariants.{Less}
use Rattle.hk_kinds.specs.Orders.{state_order}
use Rattle.hk_kinds.specs.contracts.keys.KeyOrd.TheImpl.{cmp-value}
use Rattle.hk_kinds.specs.inside.Keys.{IsKeyOf, AreKeysOf, IsNumbered, IsSorting, key_numbers, picked_at}
use Rattle.hk_kinds.proofs.StateOrder.{derived_states}
use Rattle.hk_kinds.specs.declared.keys.Key.{Key}
use Rattle.hk_kinds.specs.declared.properties.Prop.{Prop}

-- what is read past the last key
abbrev pub no_key : Key
no_key = record { state = record { ref_ptr = (0, 0); now = [] }; number = 0 }

-- there are as many numbers as keys
pub length_numbers : (keys : List Key) → length (key_numbers keys) ≡ length keys
length_numbers keys = length-map keys (λ key. key.number)

-- the number of the key at a place
pub number_at : (keys : List Key) (i : ℕ) → i < length keys → (get_or keys i no_key).number ≡ get_or (key_numbers keys) i 0
number_at keys i lt = sym (get_or-map (λ (key : Key). key.number) keys i no_key 0 lt)

-- it is the number of a row
pub number_within : (rows : List (List Prop)) (keys : List Key) (i : ℕ) → IsSorting rows (key_numbers keys) → i < length keys → (get_or keys i no_key).number < length rows
number_within rows keys i sorting lt = rw (number_at keys i lt) (sorting.below i (omega (arith, length_numbers keys)))

-- the key is that of the row that its number says
abbrev IsOwn : List (List Prop) → Key → Type 0
IsOwn rows key = (key.number < length rows) × (key.state.now ≡ get_or rows key.number [])

own_key : (rows : List (List Prop)) (k : ℕ) (key : Key) → k < length rows → IsKeyOf rows k key → IsOwn rows key
own_key rows k key lt is = (omega (arith, is.number), is.state ∙ ap (λ n. get_or rows n []) (sym is.number))

all_own : (rows : List (List Prop)) (keys : List Key) → AreKeysOf rows (length rows) keys → All (IsOwn rows) keys
all_own rows keys are k other lt = own_key rows k (get_or keys k other) (omega (arith, are.long)) (are.each k other (omega (arith, are.long)))

-- the number of a row stands among those of the keys in any order
numbered : (rows : List (List Prop)) (keys sorted : List Key) (number : ℕ) → AreKeysOf rows (length rows) keys → IsPermutation keys sorted → number < length rows → IsNumbered (key_numbers sorted) number
numbered rows keys sorted number are moved lt =
    let key : Key = get_or keys number no_key in
    let there : Contains sorted key = Contains-permutation keys sorted key moved (Contains-get_or keys number no_key (omega (arith, are.long))) in
    let read : get_or sorted there.0 no_key ≡ key = get_or_default sorted there.0 no_key key there.1 ∙ there.2 in
    record {
      place = there.0;
      within = omega (arith, length_numbers sorted, there.1);
      same = sym (number_at sorted there.0 there.1) ∙ (ap (λ (k : Key). k.number) read ∙ (are.each number no_key lt).number);
    }

not_both : (answer : Bool) → answer ≡ true → answer ≡ false → ⊥
not_both answer passed failed = cc

-- a key whose state is less is the lesser key
lesser_key : (a b : Key) → state_order a.state.now b.state.now ≡ Less → cmp-value.it a b ≡ Less
lesser_key a b less = ap (λ order. ordering_then order (nat_cmp a.number b.number)) (derived_states a.state.now b.state.now ∙ less)

not_below : (a b : Key) → is_lt (cmp-value.it a b) ≡ false → state_order a.state.now b.state.now ≡ Less → ⊥
not_below a b h less = not_both (is_lt (cmp-value.it a b)) (ap is_lt (lesser_key a b less)) h

-- keys that are sorted sort the rows
pub keys_sort : (rows : List (List Prop)) (keys sorted : List Key) → AreKeysOf rows (length rows) keys → IsPermutation keys sorted → IsSorted cmp-value.it sorted → IsSorting rows (key_numbers sorted)
keys_sort rows keys sorted are moved up =
    let own : All (IsOwn rows) sorted = All-permutation (IsOwn rows) keys sorted moved (all_own rows keys are) in
    let same : length sorted ≡ length keys = length_permutation keys sorted moved in
    let own_at : (k : ℕ) → k < length (key_numbers sorted) → (get_or (key_numbers sorted) k 0 < length rows) × ((get_or sorted k no_key).state.now ≡ picked_at rows (key_numbers sorted) k) = λ k lt. own_number rows sorted k own (omega (arith, length_numbers sorted)) in
    record {
      long = length_numbers sorted ∙ (same ∙ are.long);
      below = λ k lt. (own_at k lt).0;
      all = λ number lt. numbered rows keys sorted number are moved lt;
      sorted = λ k lt less. not_below (get_or sorted (k + 1) no_key) (get_or sorted k no_key) (up k no_key (omega arith) (omega (arith, length_numbers sorted))) (ap (λ state. state_order state (get_or sorted k no_key).state.now) (own_at (k + 1) lt).1 ∙ (ap (state_order (picked_at rows (key_numbers sorted) (k + 1))) (own_at k (omega arith)).1 ∙ less));
    }
  where
    own_number : (rows : List (List Prop)) (sorted : List Key) (k : ℕ) → All (IsOwn rows) sorted → k < length sorted → (get_or (key_numbers sorted) k 0 < length rows) × ((get_or sorted k no_key).state.now ≡ picked_at rows (key_numbers sorted) k)
    own_number rows sorted k own lt = subst (λ n. (n < length rows) × ((get_or sorted k no_key).state.now ≡ get_or rows n [])) (number_at sorted k lt) (own k no_key lt)
