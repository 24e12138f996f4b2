-- Sets that take in, place by place, the rows that entries lead to; and the old rows that values lead to.
use Rattle.std.proofs.Common.{◌≡◌, ℕ, zero, suc, ◌+◌, ◌-◌, ◌*◌, ◌^◌, ◌<◌, ◌≤◌, ◌==◌, eqb, ltb, Bool, true, false, cond, ◌&&◌, ◌||◌, List, [], ◌∷◌, ◌++◌, All, length, map, set, replicate, get_or, slice_get, refl, sym, ◌∙◌, ap, subst, inl, inr, arith}
use Rattle.std.specs.Int.{bit_at}
use Rattle.std.specs.List.{filter, list_any, range_with_len}
use Rattle.std.proofs.lemmas.Bool.{cases_lt, eq-eqb, ne_eqb, le-leb, lt-leb, le-ltb, lt-ltb, and_right, true≢false}
use Rattle.std.proofs.lemmas.List.{append-nil, append_assoc, length-append, length-replicate, get_or-replicate, get_or_append_left, get_or-append-add}
use Rattle.std.proofs.lemmas.List.Elements.{All-from_get_or, All-head, All-tail}
use Rattle.std.proofs.lemmas.List.Folds.{list_any-append}
use Rattle.std.proofs.lemmas.Nat.Bits.{bit_at-zero, bit_at_cat_low, bit_at_cat_high}
use Rattle.hk_base.specs.Sets.{Has}
use Rattle.hk_table.specs.Tables.{PlainRow, entry_for, flat_entries}
use Rattle.hk_table.specs.declared.entries.Entry.{Entry}
use Rattle.hk_table.specs.declared.entries.Entry.TheVariants.{Gone}
use Rattle.hk_text.proofs.Members.{members_below_more}
use Rattle.hk_text.specs.Sets.{members, members_below}
use Rattle.hk_layers.specs.Falling.{AreLong}
use Rattle.hk_layers.specs.Layers.{is_live_to, old_entry, targets}
use Rattle.hk_layers.specs.Spots.{PlainSpot}
use Rattle.hk_layers.specs.inside.Targets.{TakeIn, entry_at, has_row, leads_to, lists_of, rows_lead, targets_at}

or_assoc : (x y z : Bool) → ((x || y) || z) ≡ (x || (y || z))
or_assoc true y z = refl
or_assoc false y z = refl

and_true : (x : Bool) → (x && true) ≡ x
and_true true = refl
and_true false = refl

-- the sets before a place have taken in what the test says, and the others are as they were
pub record TakenUpTo (more : ℕ → ℕ → Bool) (old new : List ℕ) (i : ℕ) : Type 0 where
  pub taken : (place c : ℕ) → place < i → has_row (get_or new place 0) c ≡ (has_row (get_or old place 0) c || more place c)
  pub kept : (place : ℕ) → i ≤ place → get_or new place 0 ≡ get_or old place 0

-- a row that isn't there
entry_past : (entries : List Entry) (width row place : ℕ) → length entries < row * width + width → entry_at entries width row place ≡ Gone
entry_past entries width row place past = ap (λ b. cond b (get_or entries (row * width + place) Gone) Gone) (lt-leb (row * width + width) (length entries) past)

-- the sets, with what the test says of the rows that are left, are the sets before, with what it says of all
abbrev pub TakesRest : List Entry → ℕ → ℕ → List ℕ → List ℕ → List ℕ → List ℕ → Type 0
TakesRest entries width count rows left old new = (place c : ℕ) → place < width → (has_row (get_or new place 0) c || rows_lead entries width count left place c) ≡ (has_row (get_or old place 0) c || rows_lead entries width count rows place c)

-- some rows, and then others
pub TakeIn-both : (entries : List Entry) (count : ℕ) (rows others all old mid new : List ℕ) → all ≡ rows ++ others → length mid ≡ length old → TakeIn (rows_lead entries (length old) count rows) old mid → TakeIn (rows_lead entries (length mid) count others) mid new → TakeIn (rows_lead entries (length old) count all) old new
TakeIn-both entries count rows others all old mid new are long first second = λ place c within.
    let test = λ (r : ℕ). leads_to count (entry_at entries (length old) r place) c in
    second place c (omega arith)
    ∙ (ap (λ w. has_row (get_or mid place 0) c || rows_lead entries w count others place c) long
    ∙ (ap (λ b. b || list_any test others) (first place c within)
    ∙ (or_assoc (has_row (get_or old place 0) c) (list_any test rows) (list_any test others)
    ∙ ap (λ b. has_row (get_or old place 0) c || b) (sym (ap (list_any test) are ∙ list_any-append test rows others)))))

-- the rows below 128 of a set in halves are those of its low half, and the others those of its high one
low_rows : (high low now n : ℕ) → high * 2 ^ 128 + low ≡ now → n ≤ 128 → members_below now n ≡ members_below low n
low_rows high low now zero is few = refl
low_rows high low now (suc n) is few =
    let next : suc n ≡ n + 1 = omega arith in
    let bit : bit_at now n ≡ bit_at low n = ap (λ m. bit_at m n) (sym is) ∙ bit_at_cat_low high 128 low n (omega arith) in
    ap (members_below now) next
    ∙ (members_below_more now n
    ∙ (ap (λ rows. rows ++ cond (bit_at now n == 1) (n ∷ []) []) (low_rows high low now n is (omega arith))
    ∙ (ap (λ b. members_below low n ++ cond (b == 1) (n ∷ []) []) bit
    ∙ sym (ap (members_below low) next ∙ members_below_more low n))))

shifted_more : (rows : List ℕ) (n : ℕ) (b : Bool) → map (λ row. 128 + row) rows ++ cond b ((128 + n) ∷ []) [] ≡ map (λ row. 128 + row) (rows ++ cond b (n ∷ []) [])
shifted_more [] n true = refl
shifted_more [] n false = refl
shifted_more (row ∷ rows) n b = ap (λ rest. (128 + row) ∷ rest) (shifted_more rows n b)

all_rows : (high low now k : ℕ) → high * 2 ^ 128 + low ≡ now → low < 2 ^ 128 → members_below now (128 + k) ≡ members_below low 128 ++ map (λ row. 128 + row) (members_below high k)
all_rows high low now zero is fits =
    let start : 128 + 0 ≡ 128 = omega arith in
    ap (members_below now) start ∙ (low_rows high low now 128 is (omega arith) ∙ sym (append-nil (members_below low 128)))
all_rows high low now (suc k) is fits =
    let next : 128 + suc k ≡ 128 + k + 1 = omega arith in
    let place : 128 + k - 128 ≡ k = omega arith in
    let bit : bit_at now (128 + k) ≡ bit_at high k = ap (λ m. bit_at m (128 + k)) (sym is) ∙ (bit_at_cat_high high 128 low (128 + k) fits (omega arith) ∙ ap (bit_at high) place) in
    let lows = members_below low 128 in
    let highs = map (λ row. 128 + row) (members_below high k) in
    let further : suc k ≡ k + 1 = omega arith in
    ap (members_below now) next
    ∙ (members_below_more now (128 + k)
    ∙ (ap (λ rows. rows ++ cond (bit_at now (128 + k) == 1) ((128 + k) ∷ []) []) (all_rows high low now k is fits)
    ∙ (ap (λ b. (lows ++ highs) ++ cond (b == 1) ((128 + k) ∷ []) []) bit
    ∙ (append_assoc lows highs (cond (bit_at high k == 1) ((128 + k) ∷ []) [])
    ∙ (ap (λ rows. lows ++ rows) (shifted_more (members_below high k) k (bit_at high k == 1))
    ∙ ap (λ rows. lows ++ map (λ row. 128 + row) rows) (sym (ap (members_below high) further ∙ members_below_more high k)))))))

from_zero : (rows : List ℕ) → map (λ row. 0 + row) rows ≡ rows
from_zero [] = refl
from_zero (row ∷ rows) = let same : 0 + row ≡ row = omega arith in cc (same, from_zero rows)

pub halves_rows : (high low now : ℕ) → now ≡ high * 2 ^ 128 + low → low < 2 ^ 128 → members_below now 256 ≡ map (λ row. 0 + row) (members low) ++ map (λ row. 128 + row) (members high)
unfolding members
halves_rows high low now is fits = all_rows high low now 128 (sym is) fits ∙ ap (λ rows. rows ++ map (λ row. 128 + row) (members_below high 128)) (sym (from_zero (members_below low 128)))

-- sets of a list of as many values as there are
pub sets_alike : (f : ℕ → List ℕ) (g : ℕ → List ℕ) (sets values : List ℕ) → length sets ≡ length values → ((k : ℕ) → k < length values → f (get_or sets k 0) ≡ g (get_or values k 0)) → map f sets ≡ map g values
sets_alike f g [] [] long same = refl
sets_alike f g [] (value ∷ values) long same = absurd (omega arith)
sets_alike f g (one ∷ sets) [] long same = absurd (omega arith)
sets_alike f g (one ∷ sets) (value ∷ values) long same = cc (same 0 (omega arith), sets_alike f g sets values (omega arith) (λ k within. same (suc k) (omega arith)))

-- what tests keep of a range, where they agree up to a number and the first one keeps nothing from there on
nothing_kept : (p : ℕ → Bool) (from k : ℕ) → ((c : ℕ) → from ≤ c → p c ≡ false) → filter p (range_with_len from k) ≡ []
nothing_kept p from zero none = refl
nothing_kept p from (suc k) none = ap (λ b. cond b (from ∷ filter p (range_with_len (from + 1) k)) (filter p (range_with_len (from + 1) k))) (none from (omega arith)) ∙ nothing_kept p (from + 1) k (λ c above. none c (omega arith))

kept_alike : (p q : ℕ → Bool) (from count k : ℕ) → ((c : ℕ) → c < from + count → p c ≡ q c) → ((c : ℕ) → from + count ≤ c → p c ≡ false) → filter p (range_with_len from (count + k)) ≡ filter q (range_with_len from count)
kept_alike p q from zero k same none = nothing_kept p from (0 + k) (λ c above. none c (omega arith))
kept_alike p q from (suc count) k same none =
    let next : suc count + k ≡ suc (count + k) = omega arith in
    let rest = kept_alike p q (from + 1) count k (λ c below. same c (omega arith)) (λ c above. none c (omega arith)) in
    ap (λ n. filter p (range_with_len from n)) next
    ∙ (ap (λ b. cond b (from ∷ filter p (range_with_len (from + 1) (count + k))) (filter p (range_with_len (from + 1) (count + k)))) (same from (omega arith))
    ∙ ap (λ rows. cond (q from) (from ∷ rows) rows) rest)

pub rows_kept : (set end count : ℕ) (q : ℕ → Bool) → count ≤ end → ((c : ℕ) → c < count → has_row set c ≡ q c) → ((c : ℕ) → count ≤ c → has_row set c ≡ false) → members_below set end ≡ filter q (range_with_len 0 count)
rows_kept set end count q few same none =
    let all : end ≡ count + (end - count) = omega arith in
    ap (members_below set) all ∙ kept_alike (has_row set) q 0 count (end - count) (λ c below. same c (omega arith)) (λ c above. none c (omega arith))

-- tests that agree on each row find one or neither does
any_alike : (p q : ℕ → Bool) (rows : List ℕ) → ((row : ℕ) → p row ≡ q row) → list_any p rows ≡ list_any q rows
any_alike p q [] same = refl
any_alike p q (row ∷ rows) same = cc (same row, any_alike p q rows same)

any_none : (p : ℕ → Bool) (rows : List ℕ) → ((row : ℕ) → p row ≡ false) → list_any p rows ≡ false
any_none p [] none = refl
any_none p (row ∷ rows) none = ap (λ b. b || list_any p rows) (none row) ∙ any_none p rows none

-- values that ascend, the first of them not below `low`
pub data Rises : ℕ → List ℕ → Type 0 where
  rises_none : {low : ℕ} → Rises low []
  rises_more : {low value : ℕ} {values : List ℕ} → low ≤ value → Rises (value + 1) values → Rises low (value ∷ values)

rises_lower : (low : ℕ) {high : ℕ} {values : List ℕ} → low ≤ high → Rises high values → Rises low values
rises_lower low below rises_none = rises_none
rises_lower low below (rises_more above more) = rises_more (omega arith) more

rises_kept : (p : ℕ → Bool) (from n : ℕ) → Rises from (filter p (range_with_len from n))
rises_kept p from zero = rises_none
rises_kept p from (suc n) =
    let rest = rises_kept p (from + 1) n in
    elim (p from) as (λ b. Rises from (cond b (from ∷ filter p (range_with_len (from + 1) n)) (filter p (range_with_len (from + 1) n)))) [ true ↦ rises_more (omega arith) rest | false ↦ rises_lower from (omega arith) rest ]

pub members_rise : (set : ℕ) → Rises 0 (members set)
unfolding members
members_rise set = rises_kept (has_row set) 0 128

rises_at : (low k : ℕ) (values : List ℕ) → Rises low values → k < length values → low ≤ get_or values k 0
rises_at low k [] rises within = absurd (omega arith)
rises_at low zero (value ∷ values) (rises_more above more) within = above
rises_at low (suc k) (value ∷ values) (rises_more above more) within = let further = rises_at (value + 1) k values more (omega arith) in omega arith

-- the entry that stands for the value at a place is that at the place
entry_own : (low : ℕ) (values : List ℕ) (entries : List Entry) (k : ℕ) → Rises low values → length entries ≡ length values → k < length values → entry_for values entries (get_or values k 0) ≡ get_or entries k Gone
entry_own low [] entries k rises long within = absurd (omega arith)
entry_own low (value ∷ values) [] k rises long within = absurd (omega arith)
entry_own low (value ∷ values) (entry ∷ entries) zero (rises_more above more) long within = ap (λ b. cond b entry (entry_for values entries value)) (eq-eqb value value refl)
entry_own low (value ∷ values) (entry ∷ entries) (suc k) (rises_more above more) long within =
    let own = get_or values k 0 in
    let further = rises_at (value + 1) k values more (omega arith) in
    ap (λ b. cond b entry (entry_for values entries own)) (ne_eqb value own (λ same. omega arith)) ∙ entry_own (value + 1) values entries k more (omega arith) (omega arith)

-- the entry of an old row at the place of a value is the one that stands for the value
read_first : (width : ℕ) (first rest : List Entry) (k : ℕ) → length first ≡ width → k < width → entry_at (first ++ rest) width 0 k ≡ get_or first k Gone
read_first width first rest k long within =
    let none : 0 * width ≡ 0 = omega arith in
    let there : 0 * width + width ≤ length (first ++ rest) = omega (arith, length-append first rest) in
    let place : 0 * width + k ≡ k = omega arith in
    ap (λ b. cond b (get_or (first ++ rest) (0 * width + k) Gone) Gone) (le-leb (0 * width + width) (length (first ++ rest)) there)
    ∙ (ap (λ n. get_or (first ++ rest) n Gone) place ∙ get_or_append_left first rest Gone k (omega arith))

read_later : (width row : ℕ) (first rest : List Entry) (k : ℕ) → length first ≡ width → entry_at (first ++ rest) width (suc row) k ≡ entry_at rest width row k
read_later width row first rest k long =
    let more : suc row * width ≡ width + row * width = omega arith in
    let all = length-append first rest in
    let place : suc row * width + k ≡ length first + (row * width + k) = omega arith in
    let read = ap (λ n. get_or (first ++ rest) n Gone) place ∙ get_or-append-add first rest (row * width + k) Gone in
    elim (cases_lt (length rest) (row * width + width)) [
      | inl past ↦ entry_past (first ++ rest) width (suc row) k (omega arith) ∙ sym (entry_past rest width row k past)
      | inr there ↦
          ap (λ b. cond b (get_or (first ++ rest) (suc row * width + k) Gone) Gone) (le-leb (suc row * width + width) (length (first ++ rest)) (omega arith))
          ∙ (read ∙ sym (ap (λ b. cond b (get_or rest (row * width + k) Gone) Gone) (le-leb (row * width + width) (length rest) there)))
    ]

pub entry_of_old : (values : List ℕ) (old : List PlainRow) (row k : ℕ) → Rises 0 values → AreLong (length values) old → k < length values → entry_at (flat_entries old) (length values) row k ≡ old_entry values (slice_get old row) (get_or values k 0)
entry_of_old values [] row k rises long within = entry_past [] (length values) row k (omega arith)
entry_of_old values (first ∷ old) zero k rises long within =
    let own : length first.entries ≡ length values = All-head (λ (r : PlainRow). length r.entries ≡ length values) first old long in
    read_first (length values) first.entries (flat_entries old) k own within ∙ sym (entry_own 0 values first.entries k rises own within)
entry_of_old values (first ∷ old) (suc row) k rises long within =
    let P = λ (r : PlainRow). length r.entries ≡ length values in
    read_later (length values) row first.entries (flat_entries old) k (All-head P first old long) ∙ entry_of_old values old row k rises (All-tail P first old long) within

-- what the sets hold that have taken in what old rows lead to, where they held none before
module _ (width count : ℕ) (entries : List Entry) (from sets : List ℕ) (taken : TakeIn (rows_lead entries width count from) (replicate width 0) sets) where
  held : (place c : ℕ) → place < width → has_row (get_or sets place 0) c ≡ rows_lead entries width count from place c
  held place c within =
      taken place c (omega (arith, length-replicate {A = ℕ} width 0))
      ∙ ap (λ n. eqb n 1 || rows_lead entries width count from place c) (ap (λ s. bit_at s c) (get_or-replicate {A = ℕ} width place 0 0 within) ∙ bit_at-zero c)

  none_past : (place c : ℕ) → count ≤ c → rows_lead entries width count from place c ≡ false
  none_past place c past = any_none (λ row. leads_to count (entry_at entries width row place) c) from (λ row. and_right (is_live_to (entry_at entries width row place) c) (ltb c count) (le-ltb c count past))

  pub held_within : length sets ≡ width → All (λ (rows : ℕ). (c : ℕ) → Has rows c → c < count) sets
  held_within long = All-from_get_or (λ (rows : ℕ). (c : ℕ) → Has rows c → c < count) sets 0 λ place below c has. elim (cases_lt c count) [
    | inl within ↦ within
    | inr past ↦ let is : true ≡ false = sym (eq-eqb (bit_at (get_or sets place 0) c) 1 has) ∙ (held place c (omega arith) ∙ none_past place c past) in absurd (true≢false is)
  ]

-- sets of no row are so many zeros
pub empty_long : (n width : ℕ) (old sets : List ℕ) → length sets ≡ length old → old ≡ replicate n 0 → n ≡ width → length sets ≡ width
empty_long n width old sets long empty same = long ∙ (ap length empty ∙ (length-replicate {A = ℕ} n 0 ∙ same))

pub TakeIn-empty : (entries : List Entry) (count n width : ℕ) (from old sets : List ℕ) → old ≡ replicate n 0 → n ≡ width → TakeIn (rows_lead entries (length old) count from) old sets → TakeIn (rows_lead entries width count from) (replicate width 0) sets
TakeIn-empty entries count n width from old sets empty same taken =
    let zeros : old ≡ replicate width 0 = empty ∙ ap (λ k. replicate k 0) same in
    let long : length old ≡ width = ap length zeros ∙ length-replicate {A = ℕ} width 0 in
    subst (λ xs. TakeIn (rows_lead entries width count from) xs sets) zeros (subst (λ w. TakeIn (rows_lead entries w count from) old sets) long taken)

-- and as the old rows that the values of a layer lead to
pub held_targets : (spot : PlainSpot) (count : ℕ) (entries : List Entry) (from sets : List ℕ) (old old_next : List PlainRow) → count ≤ 256 → length sets ≡ length (members spot.values) → AreLong (length (members spot.values)) old → length old_next ≡ count → entries ≡ flat_entries old
    → TakeIn (rows_lead entries (length (members spot.values)) count from) (replicate (length (members spot.values)) 0) sets → lists_of sets ≡ targets_at spot old old_next from
held_targets spot count entries from sets old old_next few long rows next are taken =
    let values = members spot.values in
    let width = length values in
    let lead = λ (c place : ℕ). list_any (λ origin. is_live_to (old_entry values (slice_get old origin) (get_or values place 0)) c) from in
    let alike : (place c : ℕ) → place < width → c < count → has_row (get_or sets place 0) c ≡ lead c place = λ place c within below.
    held width count entries from sets taken place c within
    ∙ any_alike _ (λ origin. is_live_to (old_entry values (slice_get old origin) (get_or values place 0)) c) from (λ row.
    ap (λ b. is_live_to (entry_at entries width row place) c && b) (lt-ltb c count below)
    ∙ (and_true (is_live_to (entry_at entries width row place) c)
    ∙ ap (λ e. is_live_to e c) (ap (λ es. entry_at es width row place) are ∙ entry_of_old values old row place (members_rise spot.values) rows within))) in
    sets_alike (λ rows. members_below rows 256) (λ value. targets values old old_next from value) sets values long (λ place within.
    rows_kept (get_or sets place 0) 256 count (λ c. lead c place) few (λ c below. alike place c within below) (λ c past. held width count entries from sets taken place c within ∙ none_past width count entries from sets taken place c past)
    ∙ ap (λ n. filter (λ c. lead c place) (range_with_len 0 n)) (sym next))
