-- Whether what among, sequence and gcc count is within the limits, and whether rows list a value twice, is decided.
use Rattle.std.proofs.Common.{◌≢◌, ℕ, suc, ◌<◌, ◌≤◌, List, [], ◌∷◌, arith}
use Rattle.std.specs.Prelude.{All, AllPairs}
use Rattle.std.proofs.Math.Decide.{map_dec, dec_le, dec_lt}
use Rattle.std.proofs.lemmas.List.Kept.{AllPairs-cons}
use Rattle.hk_group.specs.Limits.{value_count, most_window}
use Rattle.hk_lines.specs.Phrases.{Row, Counting}
use Rattle.hk_draft.specs.Declares.{IsSmallCounting, IsWindow, IsSmallRow, row_digits, AreOnce}
use Rattle.hk_draft.specs.Limits.{most_times}
use Rattle.hk_text.proofs.Deciding.{dec_both, dec_not, dec_all, dec_text}

-- what is decided and not refuted holds
pub since : {A : Type 0} → Dec A → ((A → ⊥) → ⊥) → A
since (yes a) none = a
since (no a) none = absurd (none a)

module _ {X : Type 0} (R : X → X → Type 0) (x : X) (xs : List X) (all : AllPairs R (x ∷ xs)) where
  -- what holds of each element and each later one holds of the first and each other, and of the others
  pub pairs_head : All (R x) xs
  pairs_head = λ k d within. all 0 (suc k) d (omega arith) (omega (arith, within))

  pub pairs_tail : AllPairs R xs
  pairs_tail = λ i j d less within. all (suc i) (suc j) d (omega (arith, less)) (omega (arith, within))

-- whether a property holds of each element and each later one
dec_pairs : {X : Type 0} (R : X → X → Type 0) → ((x y : X) → Dec (R x y)) → (xs : List X) → Dec (AllPairs R xs)
dec_pairs R each [] = yes (λ i j d less within. absurd (omega (arith, within)))
dec_pairs R each (x ∷ xs) = map_dec (λ both. AllPairs-cons R x xs both.0 both.1) (λ all. (pairs_head R x xs all, pairs_tail R x xs all)) (dec_both (dec_all (R x) (each x) xs) (dec_pairs R each xs))

-- whether no value is listed twice
pub dec_once : (rows : List Row) → Dec (AreOnce rows)
dec_once rows = dec_pairs (λ digits other. digits ≢ other) (λ digits other. dec_not (dec_text digits other)) (row_digits rows)

-- whether a counting, a window and rows are within the limits
pub dec_small_counting : (counting : Counting) → Dec (IsSmallCounting counting)
dec_small_counting counting = map_dec
    (λ all. record { ordered = all.0.0; within = all.0.1; least_fits = all.1.0; most_fits = all.1.1 })
    (λ small. ((small.ordered, small.within), (small.least_fits, small.most_fits)))
    (dec_both
    (dec_both
    (dec_all (λ values. values.first ≤ values.last) (λ values. dec_le values.first values.last) counting.set)
    (dec_all (λ values. values.last < value_count) (λ values. dec_lt values.last value_count) counting.set))
    (dec_both (dec_le counting.least most_times) (dec_le counting.most most_times)))

pub dec_window : (window : ℕ) → Dec (IsWindow window)
dec_window window = map_dec (λ both. record { some = both.0; short = both.1 }) (λ is. (is.some, is.short)) (dec_both (dec_le 1 window) (dec_le window most_window))

dec_small_row : (row : Row) → Dec (IsSmallRow row)
dec_small_row row = map_dec
    (λ all. record { small = all.0; least_fits = all.1.0; most_fits = all.1.1 })
    (λ is. (is.small, (is.least_fits, is.most_fits)))
    (dec_both (dec_lt row.value value_count) (dec_both (dec_le row.least most_times) (dec_le row.most most_times)))

pub dec_small_rows : (rows : List Row) → Dec (All IsSmallRow rows)
dec_small_rows rows = dec_all IsSmallRow dec_small_row rows
