-- The rows that a row comes from, as the rows of a set.
use Rattle.std.proofs.Common.{◌≡◌, ◌↔◌, ◌⊎◌, ℕ, ◌+◌, ◌<◌, List, [], ◌∷◌, length, take, slice_index, sym, subst, inl, inr, All}
use Rattle.std.proofs.lemmas.List.{take_more}
use Rattle.std.specs.List.{Contains}
use Rattle.hk_base.specs.Sets.{Has}
use Rattle.hk_table.proofs.Members.{Contains-from_member, Member-append_cases, Member-append_left, Member-append_right, Member-cases, Member-from_contains}
use Rattle.hk_table.proofs.RowLists.{members_has, members_of_rows}
use Rattle.hk_table.specs.Members.{Member, first}
use Rattle.hk_arena.specs.Cells.{rows_in_set}

-- a set has a row below 256 where it is one of its rows
pub has_row : (set row : ℕ) → (Has set row × (row < 256)) ↔ Contains (rows_in_set set) row
unfolding rows_in_set
has_row set row = members_has set 256 row

-- an ascending list of rows is that of the set of the same rows
pub rows_are : (set : ℕ) (rows : List ℕ) → ((k : ℕ) → k + 1 < length rows → slice_index rows k < slice_index rows (k + 1)) → All (λ row. row < 256) rows → ((row : ℕ) → Has set row ↔ Contains rows row) → rows_in_set set ≡ rows
unfolding rows_in_set
rows_are set rows ascending below same = members_of_rows set 256 rows ascending below same

-- one row of a list more
pub contains_more : (rows : List ℕ) (at row : ℕ) → at < length rows → Contains (take (at + 1) rows) row ↔ (Contains (take at rows) row ⊎ (row ≡ slice_index rows at))
contains_more rows at row below =
    let more = take_more rows at 0 below in (
      λ contains. elim (Member-append_cases (take at rows) (subst (Member row) more (Member-from_contains (take (at + 1) rows) row contains))) [
        | inl m ↦ inl (Contains-from_member m)
        | inr m ↦ elim (Member-cases m) [ inl same ↦ inr same | inr m ↦ elim m [ ] ]
      ],
      λ either. Contains-from_member (subst (Member row) (sym more) (elim either [
        | inl contains ↦ Member-append_left (slice_index rows at ∷ []) (Member-from_contains (take at rows) row contains)
        | inr same ↦ Member-append_right (take at rows) (subst (λ r. Member row (r ∷ [])) same first)
      ])),
    )
