-- The domains that a pass leaves: which values they have, and that there are no more than before.
use Rattle.std.proofs.Common.{◌≡◌, ◌↔◌, ℕ, zero, suc, ◌+◌, ◌^◌, ◌<◌, ◌≤◌, Bool, true, List, [], ◌∷◌, length, slice_index, All, refl, sym, ap, ap₂, ◌∙◌, subst, inl, inr, arith}
use Rattle.std.proofs.lemmas.Bool.{cases_lt}
use Rattle.std.proofs.lemmas.List.Elements.{All-head, All-tail}
use Rattle.std.proofs.lemmas.Nat.Bits.{bit_at-lt, same_from_bits_below}
use Rattle.std.specs.Int.{bit_at}
use Rattle.hk_base.specs.Sets.{Has}
use Rattle.hk_text.specs.Sets.{members}
use Rattle.hk_prop.specs.Contents.{values_left}
use Rattle.hk_prop.specs.Passes.{values_that, pruned_from}
use Rattle.hk_prop.proofs.ValueSets.{all_pass, Has-values_that, values_that-has, values_that-small, fewer_values}

module _ (allowed : ℕ → ℕ → Bool) where
  pub pruned_long : (from : ℕ) (sets : List ℕ) → length (pruned_from allowed from sets) ≡ length sets
  pruned_long from [] = refl
  pruned_long from (x ∷ xs) = omega (arith, pruned_long (from + 1) xs)

  -- the set of one variable
  pub pruned_at : (from : ℕ) (sets : List ℕ) (k : ℕ) → k < length sets → slice_index (pruned_from allowed from sets) k ≡ values_that (allowed (from + k)) (slice_index sets k)
  pruned_at from [] k within = absurd (omega arith)
  pruned_at from (x ∷ xs) zero within = let same : from ≡ from + 0 = omega arith in ap (λ n. values_that (allowed n) x) same
  pruned_at from (x ∷ xs) (suc k) within =
      let same : from + 1 + k ≡ from + suc k = omega arith in
      pruned_at (from + 1) xs k (omega arith) ∙ ap (λ n. values_that (allowed n) (slice_index xs k)) same

  pub pruned_has : (sets : List ℕ) (variable value : ℕ) → variable < length sets → Has (slice_index (pruned_from allowed 0 sets) variable) value ↔ ((value < 128) × Has (slice_index sets variable) value × (allowed variable value ≡ true))
  pruned_has sets variable value within =
      let at : slice_index (pruned_from allowed 0 sets) variable ≡ values_that (allowed (0 + variable)) (slice_index sets variable) = pruned_at 0 sets variable within in
      let zero_more : 0 + variable ≡ variable = omega arith in
      let set_is : slice_index (pruned_from allowed 0 sets) variable ≡ values_that (allowed variable) (slice_index sets variable) = at ∙ ap (λ n. values_that (allowed n) (slice_index sets variable)) zero_more in (
        λ has. values_that-has (allowed variable) (slice_index sets variable) value (subst (λ s. Has s value) set_is has),
        λ parts. subst (λ s. Has s value) (sym set_is) (Has-values_that (allowed variable) (slice_index sets variable) value parts.0 parts.1 parts.2),
      )

  pub pruned_small : (from : ℕ) (sets : List ℕ) → All (λ s. s < 2 ^ 128) (pruned_from allowed from sets)
  pruned_small from [] k d within = absurd (omega arith)
  pruned_small from (x ∷ xs) zero d within = values_that-small (allowed from) x
  pruned_small from (x ∷ xs) (suc k) d within = pruned_small (from + 1) xs k d (omega arith)

  pub pruned_fewer : (from : ℕ) (sets : List ℕ) → values_left (pruned_from allowed from sets) ≤ values_left sets
  pruned_fewer from [] = omega arith
  pruned_fewer from (x ∷ xs) = omega (arith, fewer_values (allowed from) x, pruned_fewer (from + 1) xs)

  -- bits that are the same where one of them says so
  same_bit : (a b i : ℕ) → Has a i ↔ Has b i → bit_at a i ≡ bit_at b i
  same_bit a b i both = elim (cases_lt (bit_at a i) 1) [
    | inl none ↦ elim (cases_lt (bit_at b i) 1) [
      | inl also ↦ omega arith
      | inr one ↦ let h : Has b i = omega (arith, bit_at-lt b i) in let k : bit_at a i ≡ 1 = both.1 h in absurd (omega arith)
    ]
    | inr one ↦ let h : Has a i = omega (arith, bit_at-lt a i) in let k : bit_at b i ≡ 1 = both.0 h in omega (arith, h, k)
  ]

  -- sets with just these values are the pruned ones
  pub same_pruned : (from : ℕ) (sets new : List ℕ) → length new ≡ length sets → All (λ s. s < 2 ^ 128) new
      → ((k value : ℕ) → k < length sets → value < 128 → Has (slice_index new k) value ↔ (Has (slice_index sets k) value × (allowed (from + k) value ≡ true))) → new ≡ pruned_from allowed from sets
  same_pruned from [] [] long small each = refl
  same_pruned from [] (y ∷ ys) long small each = absurd (omega arith)
  same_pruned from (x ∷ xs) [] long small each = absurd (omega arith)
  same_pruned from (x ∷ xs) (y ∷ ys) long small each =
      let here : from + 0 ≡ from = omega arith in
      let one : y ≡ values_that (allowed from) x = same_from_bits_below 128 y (values_that (allowed from) x) (All-head (λ s. s < 2 ^ 128) y ys small) (values_that-small (allowed from) x) (λ i within.
      same_bit y (values_that (allowed from) x) i (
        λ has. let is = (each 0 i (omega arith) within).0 has in Has-values_that (allowed from) x i within is.0 (ap (λ n. allowed n i) (sym here) ∙ is.1),
        λ has. let is = values_that-has (allowed from) x i has in (each 0 i (omega arith) within).1 (is.1, ap (λ n. allowed n i) here ∙ is.2),
      )) in
      ap₂ (λ s ss. s ∷ ss) one
      (same_pruned (from + 1) xs ys (omega arith) (All-tail (λ s. s < 2 ^ 128) y ys small) (λ k value within low.
      subst (λ n. Has (slice_index ys k) value ↔ (Has (slice_index xs k) value × (allowed n value ≡ true))) (let same : from + suc k ≡ from + 1 + k = omega arith in same) (each (suc k) value (omega arith) low)))

  pub pruned_only : (sets new : List ℕ) → length new ≡ length sets → All (λ s. s < 2 ^ 128) new
      → ((k value : ℕ) → k < length sets → value < 128 → Has (slice_index new k) value ↔ (Has (slice_index sets k) value × (allowed k value ≡ true))) → new ≡ pruned_from allowed 0 sets
  pruned_only sets new long small each = same_pruned 0 sets new long small (λ k value within low.
      subst (λ n. Has (slice_index new k) value ↔ (Has (slice_index sets k) value × (allowed n value ≡ true))) (let same : k ≡ 0 + k = omega arith in same) (each k value within low))

  -- where as many values are left as before, the sets are as they were
  pub same_when_as_many : (from : ℕ) (sets : List ℕ) → All (λ s. s < 2 ^ 128) sets → values_left (pruned_from allowed from sets) ≡ values_left sets → pruned_from allowed from sets ≡ sets
  same_when_as_many from [] small same = refl
  same_when_as_many from (x ∷ xs) small same =
      let head : length (members (values_that (allowed from) x)) ≡ length (members x) = omega (arith, same, fewer_values (allowed from) x, pruned_fewer (from + 1) xs) in
      let tail : values_left (pruned_from allowed (from + 1) xs) ≡ values_left xs = omega (arith, same, head) in
      ap₂ (λ s ss. s ∷ ss)
      (same_from_bits_below 128 (values_that (allowed from) x) x (values_that-small (allowed from) x) (All-head (λ s. s < 2 ^ 128) x xs small) (λ i within.
      same_bit (values_that (allowed from) x) x i (λ has. (values_that-has (allowed from) x i has).1, λ has. all_pass (allowed from) x head i within has)))
      (same_when_as_many (from + 1) xs (All-tail (λ s. s < 2 ^ 128) x xs small) tail)
