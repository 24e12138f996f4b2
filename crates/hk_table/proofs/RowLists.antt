-- Ascending lists of rows, and the sets of the same rows.
use Rattle.std.proofs.Common.{◌≡◌, ◌↔◌, ℕ, zero, suc, ◌+◌, ◌<◌, ◌≤◌, cond, List, [], ◌∷◌, length, slice_index, eqb, refl, sym, ◌∙◌, ap, subst, inl, inr, arith, All}
use Rattle.std.specs.Int.{bit_at}
use Rattle.std.specs.List.{Contains, filter, range_with_len}
use Rattle.std.proofs.lemmas.Bool.{cases_eq, eq-eqb, eqb-true, ne_eqb}
use Rattle.hk_base.specs.Sets.{Has}
use Rattle.hk_table.specs.Members.{Member, first, later}
use Rattle.hk_table.proofs.Members.{All-member, Contains-from_member, Member-cases, Member-filter, Member-filtered, Member-from_contains, Member-range, Member-ranged}
use Rattle.hk_text.specs.Sets.{members_below}

-- the rows ascend, the first of them not below `low`
data Rises : ℕ → List ℕ → Type 0 where
  rises_none : {low : ℕ} → Rises low []
  rises_more : {low row : ℕ} {rows : List ℕ} → low ≤ row → Rises (row + 1) rows → Rises low (row ∷ rows)

rises_from_steps : (low : ℕ) (rows : List ℕ) → (0 < length rows → low ≤ slice_index rows 0) → ((k : ℕ) → k + 1 < length rows → slice_index rows k < slice_index rows (k + 1)) → Rises low rows
rises_from_steps low [] start steps = rises_none
rises_from_steps low (row ∷ rows) start steps = rises_more (start (omega arith)) (rises_from_steps (row + 1) rows (λ some. let step = steps 0 (omega arith) in omega (arith, step)) (λ k within. let place : suc k + 1 ≡ suc (k + 1) = omega arith in subst (λ p. slice_index rows k < slice_index (row ∷ rows) p) place (steps (suc k) (omega arith))))

rises_member : (low : ℕ) {rows : List ℕ} {row : ℕ} → Rises low rows → Member row rows → low ≤ row
rises_member low rises_none m = elim m [ ]
rises_member low (rises_more above more) first = above
rises_member low (rises_more {row = head} above more) (later m) = let after = rises_member (head + 1) more m in omega arith

-- the test of the least number of a range decides whether it is kept
kept_first : (set low count : ℕ) → Has set low → filter (λ row. eqb (bit_at set row) 1) (range_with_len low (suc count)) ≡ low ∷ filter (λ row. eqb (bit_at set row) 1) (range_with_len (low + 1) count)
kept_first set low count has =
    let rest = filter (λ row. eqb (bit_at set row) 1) (range_with_len (low + 1) count) in
    ap (λ b. cond b (low ∷ rest) rest) (eq-eqb (bit_at set low) 1 has)

kept_later : (set low count : ℕ) → (Has set low → ⊥) → filter (λ row. eqb (bit_at set row) 1) (range_with_len low (suc count)) ≡ filter (λ row. eqb (bit_at set row) 1) (range_with_len (low + 1) count)
kept_later set low count hasnt =
    let rest = filter (λ row. eqb (bit_at set row) 1) (range_with_len (low + 1) count) in
    ap (λ b. cond b (low ∷ rest) rest) (ne_eqb (bit_at set low) 1 hasnt)

-- what is kept of a range are the rows of the ascending list with the same members there
kept_are : (set low count : ℕ) (rows : List ℕ) → Rises low rows → ((row : ℕ) → Member row rows → row < low + count) → ((row : ℕ) → low ≤ row → Has set row ↔ Member row rows) → filter (λ row. eqb (bit_at set row) 1) (range_with_len low count) ≡ rows
kept_are set low zero [] rises below same = refl
kept_are set low zero (row ∷ rows) (rises_more above more) below same = let within = below row first in absurd (omega arith)
kept_are set low (suc count) [] rises below same =
    kept_later set low count (λ has. elim ((same low (omega arith)).0 has) [ ])
    ∙ kept_are set (low + 1) count [] rises_none (λ row m. elim m [ ]) (λ row above. same row (omega arith))
kept_are set low (suc count) (row ∷ rows) (rises_more above more) below same = elim (cases_eq low row) [
  | inl here ↦
      kept_first set low count ((same low (omega arith)).1 (subst (λ r. Member low (r ∷ rows)) here first))
      ∙ ap (λ rest. low ∷ rest) (kept_are set (low + 1) count rows (subst (λ r. Rises (r + 1) rows) (sym here) more) (λ r m. let within = below r (later m) in omega arith) (λ r after. (
        λ has. elim (Member-cases ((same r (omega arith)).0 has)) [ inl is ↦ absurd (omega arith) | inr m ↦ m ],
        λ m. (same r (omega arith)).1 (later m),
      )))
      ∙ ap (λ r. r ∷ rows) here
  | inr apart ↦
      kept_later set low count (λ has. let after = rises_member row (rises_more {low = row} (omega arith) more) ((same low (omega arith)).0 has) in absurd (omega arith))
      ∙ kept_are set (low + 1) count (row ∷ rows) (rises_more (omega arith) more) (λ r m. let within = below r m in omega arith) (λ r after. same r (omega arith))
]

-- an ascending list of rows is that of the members of a set with the same rows
pub members_of_rows : (set end : ℕ) (rows : List ℕ) → ((k : ℕ) → k + 1 < length rows → slice_index rows k < slice_index rows (k + 1)) → All (λ row. row < end) rows → ((row : ℕ) → Has set row ↔ Contains rows row) → members_below set end ≡ rows
members_of_rows set end rows steps below same =
    kept_are set 0 end rows (rises_from_steps 0 rows (λ some. omega arith) steps) (λ row m. let within = All-member (λ r. r < end) below m in omega arith) (λ row above. (λ has. Member-from_contains rows row ((same row).0 has), λ m. (same row).1 (Contains-from_member m)))

-- the members of a set below `end` are the rows that it has there
pub members_has : (set end row : ℕ) → (Has set row × (row < end)) ↔ Contains (members_below set end) row
members_has set end row = (
  λ has. Contains-from_member (Member-filter (λ r. eqb (bit_at set r) 1) (Member-range 0 end row (omega arith) (omega (arith, has.1))) (eq-eqb (bit_at set row) 1 has.0)),
  λ contains.
      let of_range = Member-filtered (λ r. eqb (bit_at set r) 1) (range_with_len 0 end) (Member-from_contains (members_below set end) row contains) in
      (eqb-true (bit_at set row) 1 of_range.1, let below = (Member-ranged 0 end of_range.0).1 in omega arith),
)
