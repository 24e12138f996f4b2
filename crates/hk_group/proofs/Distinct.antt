use Rattle.std.proofs.Common.{◌≢◌, ℕ, zero, suc, ◌+◌, ◌*◌, ◌%◌, ◌^◌, ◌<◌, ◌↔◌, List, [], ◌∷◌, length, get_or, drop, slice_index, All, AllPairs, bit_or, arith, sym, ◌∙◌, subst}
use Rattle.std.specs.Int.{w128}
use Rattle.std.proofs.lemmas.Nat.Bits.{bit_at-zero, bit_at_set_same, bit_at_set_other}
use Rattle.std.proofs.lemmas.List.{drop_more}
use Rattle.std.proofs.lemmas.List.Elements.{All-cons, All-tail, All-nil, All-map}
use Rattle.hk_base.specs.Sets.{Has}
use Rattle.hk_group.specs.Solutions.{scope_values}

-- the set with one more value
abbrev pub with_value : ℕ → ℕ → ℕ
with_value set value = bit_or set (1 * 2 ^ value % 2 ^ 128)

-- the values are pairwise distinct, and none is in the set
abbrev pub AreFresh : ℕ → List ℕ → Type 0
AreFresh seen [] = Unit {0}
AreFresh seen (x ∷ xs) = (Has seen x → ⊥) × AreFresh (with_value seen x) xs

AllPairs-cons : (x : ℕ) (xs : List ℕ) → All (λ y. x ≢ y) xs → AllPairs (λ y z. y ≢ z) xs → AllPairs (λ y z. y ≢ z) (x ∷ xs)
AllPairs-cons x xs first rest zero zero d before within = absurd (omega arith)
AllPairs-cons x xs first rest zero (suc j) d before within = first j d (omega arith)
AllPairs-cons x xs first rest (suc i) zero d before within = absurd (omega arith)
AllPairs-cons x xs first rest (suc i) (suc j) d before within = rest i j d (omega arith) (omega arith)

AllPairs-head : (x : ℕ) (xs : List ℕ) → AllPairs (λ y z. y ≢ z) (x ∷ xs) → All (λ y. x ≢ y) xs
AllPairs-head x xs pairs k d within = pairs 0 (suc k) d (omega arith) (omega arith)

AllPairs-tail : (x : ℕ) (xs : List ℕ) → AllPairs (λ y z. y ≢ z) (x ∷ xs) → AllPairs (λ y z. y ≢ z) xs
AllPairs-tail x xs pairs i j d before within = pairs (suc i) (suc j) d (omega arith) (omega arith)

-- what a set that gains x has besides x, it had before
Has-with_value : (set x y : ℕ) → x < 128 → x ≢ y → Has (with_value set x) y → Has set y
Has-with_value set x y small other has = sym (bit_at_set_other w128 set x small y (λ same. other (sym same))) ∙ has

-- what a set that gains x doesn't have, it didn't have before, and it is another value
not_had_before : (set x y : ℕ) → x < 128 → (Has (with_value set x) y → ⊥) → (Has set y → ⊥) × (x ≢ y)
not_had_before set x y small none =
    let other : x ≢ y = λ same. none (subst (λ z. Has (with_value set x) z) same (bit_at_set_same w128 set x small)) in
    ((λ has. none (bit_at_set_other w128 set x small y (λ same. other (sym same)) ∙ has)), other)

fresh_from_distinct : (seen : ℕ) (xs : List ℕ) → All (λ x. x < 128) xs → AllPairs (λ x y. x ≢ y) xs → All (λ x. Has seen x → ⊥) xs → AreFresh seen xs
fresh_from_distinct seen [] small pairs none = tt
fresh_from_distinct seen (x ∷ xs) small pairs none = (
  none 0 0 (omega arith),
  fresh_from_distinct (with_value seen x) xs
      (All-tail (λ y. y < 128) x xs small)
      (AllPairs-tail x xs pairs)
      (λ k d within has.
      none (suc k) d (omega arith)
      (Has-with_value seen x (get_or xs k d) (small 0 0 (omega arith)) (AllPairs-head x xs pairs k d within) has)),
)

distinct_from_fresh : (seen : ℕ) (xs : List ℕ) → All (λ x. x < 128) xs → AreFresh seen xs → AllPairs (λ x y. x ≢ y) xs × All (λ x. Has seen x → ⊥) xs
distinct_from_fresh seen [] small fresh = ((λ i j d before within. absurd (omega arith)), All-nil (λ x. Has seen x → ⊥))
distinct_from_fresh seen (x ∷ xs) small fresh =
    let rest = distinct_from_fresh (with_value seen x) xs (All-tail (λ y. y < 128) x xs small) fresh.1 in
    let first : x < 128 = small 0 0 (omega arith) in (
      AllPairs-cons x xs (λ k d within. (not_had_before seen x (get_or xs k d) first (rest.1 k d within)).1) rest.0,
      All-cons (λ y. Has seen y → ⊥) x xs fresh.0 (λ k d within. (not_had_before seen x (get_or xs k d) first (rest.1 k d within)).0),
    )

-- distinct values are those that are fresh where nothing is seen yet
pub distinct_is_fresh : (xs : List ℕ) → All (λ x. x < 128) xs → AllPairs (λ x y. x ≢ y) xs ↔ AreFresh 0 xs
distinct_is_fresh xs small = (
  (λ pairs. fresh_from_distinct 0 xs small pairs (λ k d within has. absurd (let none = bit_at-zero (get_or xs k d) in cc))),
  (λ fresh. (distinct_from_fresh 0 xs small fresh).0),
)

-- the values of a scope are among the values
pub scope_values-small : (scope values : List ℕ) → All (λ variable. variable < length values) scope → All (λ value. value < 128) values → All (λ value. value < 128) (scope_values scope values)
scope_values-small scope values declared small =
    All-map (λ value. value < 128) (λ variable. slice_index values variable) scope (λ k d within. small (get_or scope k d) 0 (declared k d within))

-- one step through a scope, at a variable whose value isn't seen yet
pub AreFresh-more : {W : Type 0} (seen : ℕ) (scope values : List ℕ) (i : ℕ) → i < length scope → W ↔ AreFresh seen (scope_values (drop i scope) values) → (Has seen (slice_index values (get_or scope i 0)) → ⊥) → W ↔ AreFresh (with_value seen (slice_index values (get_or scope i 0))) (scope_values (drop (i + 1) scope) values)
AreFresh-more {W} seen scope values i within so_far new =
    let here = subst (λ rest. W ↔ AreFresh seen (scope_values rest values)) (drop_more scope i 0 within) so_far in
    ((λ whole. (here.0 whole).1), (λ rest. here.1 (new, rest)))
