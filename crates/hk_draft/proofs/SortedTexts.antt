-- Lent texts that are sorted: whether two are the same is seen at neighbours.
use Rattle.std.proofs.Common.{◌≡◌, ◌≢◌, Bor, ℕ, ◌+◌, ◌-◌, ◌<◌, ◌≤◌, Bool, false, true≢false, List, [], length, get_or, map, refl, sym, ap, ◌∙◌, arith}
use Rattle.std.specs.Prelude.{AllPairs}
use Rattle.std.specs.Cmp.{IsTotalOrder}
use Rattle.std.specs.Cmp.Lexicographic.{slice_cmp}
use Rattle.std.specs.FinMap.{nat_cmp-IsAntisymmetric, slice_cmp-IsAntisymmetric}
use Rattle.std.specs.List.{IsDistinct}
use Rattle.std.specs.List.Sorted.{IsPermutation, IsSorted, IsStrictlySortedBy}
use Rattle.std.specs.Ordering.{nat_cmp, is_lt, is_eq, eq_by_cmp, ordering_reverse}
use Rattle.std.specs.declared.cmp.Ordering.{Ordering}
use Rattle.std.specs.declared.cmp.Ordering.TheVariants.{Less, Equal, Greater}
use Rattle.std.proofs.lemmas.Cmp.{nat_list_cmp_total, on_total, eq_by_cmp_equiv, tied_itself}
use Rattle.std.proofs.lemmas.List.{get_or-map, length-map}
use Rattle.std.proofs.lemmas.List.Sorted.{IsPermutation-sym}
use Rattle.std.proofs.lemmas.Map.Keys.{IsDistinct-from_sorted, IsDistinct-IsPermutation, IsDistinct-from_apart, apart_from_distinct, sorted_from_all_adjacent}

-- a text that is lent, and any such text
abbrev Lent : Type 0
Lent = Bor (List ℕ)

abbrev pub any_text : Lent
any_text = record { ref_ptr = (0, 0); now = [] }

abbrev bytes_of : Lent → List ℕ
bytes_of text = text.now

-- no two of the texts are the same
abbrev pub AllDiffer : List Lent → Type 0
AllDiffer texts = AllPairs (λ text other. text ≢ other) (map bytes_of texts)

-- the order of the texts' bytes, and that it finds two to be the same
abbrev by_bytes : Lent → Lent → Ordering
by_bytes x y = slice_cmp nat_cmp x.now y.now

abbrev alike : Lent → Lent → Bool
alike = eq_by_cmp by_bytes

total : IsTotalOrder by_bytes
total = on_total bytes_of nat_list_cmp_total

same_bytes : (x y : Lent) → by_bytes x y ≡ Equal → x.now ≡ y.now
same_bytes x y equal = slice_cmp-IsAntisymmetric nat_cmp-IsAntisymmetric x.now y.now equal

unlike : (x y : Lent) (order : Ordering) → by_bytes x y ≡ order → x.now ≢ y.now → is_eq order ≡ false
unlike x y Less is apart = refl
unlike x y Equal is apart = absurd (apart (same_bytes x y is))
unlike x y Greater is apart = refl

other_bytes : (x y : Lent) → alike x y ≡ false → x.now ≢ y.now
other_bytes x y unlike same = true≢false (sym (ap is_eq (ap (slice_cmp nat_cmp x.now) (sym same) ∙ tied_itself nat_list_cmp_total x.now)) ∙ unlike)

-- that no two are the same, as the order finds it
from_distinct : (texts : List Lent) → IsDistinct alike texts → AllDiffer texts
from_distinct texts distinct i j d less within same =
    let below : j < length texts = omega (arith, within, length-map texts bytes_of) in
    other_bytes (get_or texts i any_text) (get_or texts j any_text) (apart_from_distinct alike texts i j any_text distinct less below)
    (sym (get_or-map bytes_of texts i any_text d (omega arith)) ∙ same ∙ get_or-map bytes_of texts j any_text d below)

distinct_from : (texts : List Lent) → AllDiffer texts → IsDistinct alike texts
distinct_from texts differ = IsDistinct-from_apart alike texts (λ i j d less within.
    unlike (get_or texts i d) (get_or texts j d) (by_bytes (get_or texts i d) (get_or texts j d)) refl (λ same.
    differ i j [] less (omega (arith, within, length-map texts bytes_of)) (get_or-map bytes_of texts i d [] (omega arith) ∙ same ∙ sym (get_or-map bytes_of texts j d [] within))))

-- it doesn't depend on how they are ordered
moved : (texts sorted : List Lent) → IsPermutation texts sorted → IsDistinct alike texts → IsDistinct alike sorted
moved texts sorted shuffled distinct = IsDistinct-IsPermutation alike (eq_by_cmp_equiv total).symm texts sorted shuffled distinct

-- of two neighbours that differ the first is less
less_than_next : (x y : Lent) (order : Ordering) → by_bytes x y ≡ order → is_lt (by_bytes y x) ≡ false → x.now ≢ y.now → order ≡ Less
less_than_next x y Less is up apart = refl
less_than_next x y Equal is up apart = absurd (apart (same_bytes x y is))
less_than_next x y Greater is up apart = absurd (true≢false (sym (ap is_lt (total.antisymm y x ∙ ap ordering_reverse is)) ∙ up))

module _ (texts sorted : List Lent) (shuffled : IsPermutation texts sorted) where
  -- where no text is the same as the next after sorting, no two are the same
  pub differ_once_sorted : IsSorted by_bytes sorted → ((k : ℕ) → k + 1 < length sorted → (get_or sorted k any_text).now ≢ (get_or sorted (k + 1) any_text).now) → AllDiffer texts
  differ_once_sorted up apart =
      let strict : IsStrictlySortedBy by_bytes sorted = sorted_from_all_adjacent total sorted any_text (λ k within. less_than_next (get_or sorted k any_text) (get_or sorted (k + 1) any_text) _ refl (up k any_text (omega arith) within) (apart k within)) in
      from_distinct texts (moved sorted texts (IsPermutation-sym texts sorted shuffled) (IsDistinct-from_sorted by_bytes sorted strict))

  -- where a text is the same as the one before it, two are the same
  pub same_once_sorted : (place : ℕ) → 1 ≤ place → place < length sorted → (get_or sorted (place - 1) any_text).now ≡ (get_or sorted place any_text).now → AllDiffer texts → ⊥
  same_once_sorted place some within same differ =
      other_bytes (get_or sorted (place - 1) any_text) (get_or sorted place any_text) (apart_from_distinct alike sorted (place - 1) place any_text (moved texts sorted shuffled (distinct_from texts differ)) (omega arith) within) same
