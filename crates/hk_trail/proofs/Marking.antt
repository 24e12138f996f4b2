use Rattle.std.proofs.Common.{◌≡◌, ◌≢◌, ℕ, ◌+◌, ◌<◌, ◌≤◌, suc, zero, List, [], ◌∷◌, ◌++◌, length, take, drop, map, set, get_or, reverse, Bool, true, false, nat_eq, refl, sym, ◌∙◌, ap, subst, arith, add-one, inl, inr, All, ◌||◌, eq-eqb, ◌^◌, length-append}
use Rattle.std.proofs.lemmas.Bool.{cases_lt}
use Rattle.std.proofs.lemmas.List.Elements.{All-append}
use Rattle.std.proofs.Math.ListN.{get_or-eq_default}
use Rattle.std.proofs.lemmas.List.{get_or-set_same, get_or-set_other, length-reverse, length-set, reverse-append}
use Rattle.std.proofs.lemmas.Grind.{get_or_default_zero}
use Rattle.std.proofs.lemmas.Bool.Decides.{nat_tests, eqb_tells}
use Rattle.std.specs.List.{IsDistinct, AllByRecursion}
use Rattle.hk_trail.specs.declared.saved.Saved.{Saved}
use Rattle.hk_trail.specs.Log.{logged_places}
use Rattle.hk_trail.specs.Marks.{AreMarks, IsStamped, IsKept}
use Rattle.hk_trail.specs.Places.{has_place, with_place, on_highest}
use Rattle.hk_trail.proofs.Undoing.{undone-written}
use Rattle.hk_trail.proofs.Levelling.{has_place-with_place, with_place-new, with_place-twice}

-- a stamp that was read, with what stands past the end left open
pub stamp_at : (stamps : List ℕ) (at place stamp : ℕ) → place < length stamps → at ≡ place → stamp ≡ get_or stamps at stamp → stamp ≡ get_or stamps place 0
stamp_at stamps at place stamp within same read =
    read ∙ (ap (λ k. get_or stamps k stamp) same ∙ get_or_default_zero stamps place stamp within)

-- the log has the entries of the highest level
pub entries-le : {T : Type 0} (entries : ℕ) (below : List ℕ) (log : List (Saved T)) (stamps : List ℕ) → AreMarks entries below log stamps → entries ≤ length log
entries-le entries [] log stamps marks = omega (arith, marks.0)
entries-le entries (next ∷ below) log stamps marks = marks.0

-- no stamp is above the highest level
pub stamps-le : {T : Type 0} (entries : ℕ) (below : List ℕ) (log : List (Saved T)) (stamps : List ℕ) (place : ℕ) → AreMarks entries below log stamps → get_or stamps place 0 ≤ length below
stamps-le entries [] log stamps place marks = omega (arith, marks.2 place)
stamps-le entries (next ∷ below) log stamps place marks = omega (arith, marks.1.at_most place)

-- a push opens a level that has no entries yet
pub AreMarks-push : {T : Type 0} (entries : ℕ) (below : List ℕ) (log : List (Saved T)) (stamps : List ℕ) → AreMarks entries below log stamps → AreMarks 0 (entries ∷ below) log stamps
unfolding IsDistinct
AreMarks-push entries below log stamps marks = (
  omega arith,
  record {
    once = tt;
    here = λ place. let le = stamps-le entries below log stamps place marks in grind (arith, nat_tests);
    at_most = λ place. omega (arith, stamps-le entries below log stamps place marks);
  },
  marks,
)

-- where a cell's stamp isn't the highest level, that level's part of the log lacks the cell
pub logged_places-note : {T : Type 0} (entries : ℕ) (below : List ℕ) (entry : Saved T) (log : List (Saved T)) (stamps : List ℕ) → AreMarks entries below log stamps → get_or stamps entry.id 0 ≢ length below → logged_places (entries + 1) below (entry ∷ log) ≡ on_highest (with_place entry.id) (logged_places entries below log)
logged_places-note entries [] entry log stamps marks other = refl
logged_places-note entries (next ∷ below) entry log stamps marks other =
    let lacks : has_place (map (λ e. e.id) (take entries log)) entry.id ≡ false = marks.1.here entry.id ∙ grind (arith, nat_tests) in
    rw add-one (ap (λ places. places ∷ logged_places next below (drop entries log)) (sym (with_place-new entry.id _ lacks)))

-- where a cell's stamp is the highest level, that level's part of the log has the cell
pub logged_places-noted : {T : Type 0} (entries : ℕ) (below : List ℕ) (log : List (Saved T)) (stamps : List ℕ) (place : ℕ) → AreMarks entries below log stamps → get_or stamps place 0 ≡ length below → logged_places entries below log ≡ on_highest (with_place place) (logged_places entries below log)
logged_places-noted entries [] log stamps place marks same = refl
logged_places-noted entries (next ∷ below) log stamps place marks same =
    let has : has_place (map (λ e. e.id) (take entries log)) place ≡ true = marks.1.here place ∙ grind (arith, nat_tests) in
    ap (λ places. places ∷ logged_places next below (drop entries log)) (sym (with_place-twice place _ has))

-- where no level is open every cell's stamp is the level
pub stamp-closed : {T : Type 0} (entries : ℕ) (below : List ℕ) (log : List (Saved T)) (stamps : List ℕ) (place : ℕ) → AreMarks entries below log stamps → length below ≡ 0 → get_or stamps place 0 ≡ length below
stamp-closed entries [] log stamps place marks closed = marks.2 place
stamp-closed entries (next ∷ below) log stamps place marks closed = cc

-- a cell that the highest level's part of the log has, or any where no level is open, has the level as its stamp
pub stamp-noted : {T : Type 0} (entries : ℕ) (below : List ℕ) (log : List (Saved T)) (stamps : List ℕ) (place : ℕ) → AreMarks entries below log stamps → logged_places entries below log ≡ on_highest (with_place place) (logged_places entries below log) → get_or stamps place 0 ≡ length below
stamp-noted entries [] log stamps place marks same = marks.2 place
stamp-noted entries (next ∷ below) log stamps place marks same =
    let kept : map (λ e. e.id) (take entries log) ≡ with_place place (map (λ e. e.id) (take entries log)) = cc in
    let stamped : nat_eq (get_or stamps place 0) (length below + 1) ≡ true = sym (marks.1.here place) ∙ has_place-with_place place _ kept in
    grind (arith, nat_tests)

-- neither of two that are not both
pub neither : (a b : Bool) → (a || b) ≡ false → (a ≡ false) × (b ≡ false)
neither true b none = cc
neither false b none = (refl, none)

-- a place that a list lacks differs from each place of it
pub all_other : (place : ℕ) (places : List ℕ) → has_place places place ≡ false → AllByRecursion (λ other. nat_eq place other ≡ false) places
all_other place [] lacks = tt
all_other place (first ∷ places) lacks =
    let both = neither (nat_eq place first) (has_place places place) lacks in
    (both.0, all_other place places both.1)

-- one more place that is stamped
pub IsStamped-note : (level place : ℕ) (places stamps : List ℕ) → IsStamped level places stamps → get_or stamps place 0 ≢ level → place < length stamps → IsStamped level (place ∷ places) (set stamps place level)
unfolding IsDistinct
IsStamped-note level place places stamps stamped other within = record {
  once = (all_other place places (stamped.here place ∙ grind (arith, nat_tests)), stamped.once);
  here = λ k. elim (eqb_tells k place) [
    | inl same ↦ let at : get_or (set stamps place level) k 0 ≡ level = rw same.1 (get_or-set_same stamps place level 0 within) in rw same.0 (sym (eq-eqb _ level at))
    | inr apart ↦ rw apart.0 (stamped.here k ∙ ap (λ s. nat_eq s level) (sym (get_or-set_other stamps place k level 0 apart.1)))
  ];
  at_most = λ k. elim (eqb_tells k place) [
    | inl same ↦ let at : get_or (set stamps place level) k 0 ≡ level = rw same.1 (get_or-set_same stamps place level 0 within) in omega arith
    | inr apart ↦ rw (get_or-set_other stamps place k level 0 apart.1) (stamped.at_most k)
  ];
}

-- an entry of a cell that the highest level's part lacks, with the cell stamped
pub AreMarks-note : {T : Type 0} (entries : ℕ) (below : List ℕ) (entry : Saved T) (log : List (Saved T)) (stamps : List ℕ) → AreMarks entries below log stamps → get_or stamps entry.id 0 ≢ length below → entry.stamp ≡ get_or stamps entry.id 0 → entry.id < length stamps → AreMarks (entries + 1) below (entry ∷ log) (set stamps entry.id (length below))
AreMarks-note entries [] entry log stamps marks other held within = absurd (other (marks.2 entry.id))
AreMarks-note entries (next ∷ below) entry log stamps marks other held within =
    let back = undone-written (λ e. e.stamp) entry (take entries log) stamps (suc (length below)) 0 held in
    let Rest : List ℕ → Type 0 = λ older. AreMarks next below (drop entries log) older in
    let level : length below + 1 ≡ suc (length below) = add-one (length below) in
    let highest : IsStamped (suc (length below)) (map (λ e. e.id) (take entries log)) stamps = rw level at marks.1 in
    rw (add-one entries, level)
    (omega (arith, marks.0), IsStamped-note (suc (length below)) entry.id _ stamps highest other within, subst Rest (sym back) marks.2)

-- stamps that are all 0 stay so where the list is cut, or filled up with 0
pub none-resized : (old new : List ℕ) → ((k : ℕ) → get_or old k 0 ≡ 0) → ((k d : ℕ) → k < length new → k < length old → get_or new k d ≡ get_or old k d) → ((k d : ℕ) → length old ≤ k → k < length new → get_or new k d ≡ 0) → (k : ℕ) → get_or new k 0 ≡ 0
none-resized old new none kept filled k = elim (cases_lt k (length new)) [
  | inl within ↦ elim (cases_lt k (length old)) [ inl before ↦ kept k 0 within before ∙ none k | inr after ↦ filled k 0 after within ]
  | inr past ↦ get_or-eq_default new 0 past
]

-- with no level open, other cells with stamps that are all 0
pub IsKept-grown : {T : Type 0} (cells more : List T) (stamps others : List ℕ) (log : List (Saved T)) (entries : ℕ) (below : List ℕ) → IsKept cells stamps log entries below → length below ≡ 0 → (((k : ℕ) → get_or stamps k 0 ≡ 0) → (k : ℕ) → get_or others k 0 ≡ 0) → length more ≤ length others → IsKept more others log entries below
IsKept-grown cells more stamps others log entries [] kept closed none few =
    let gone : length log ≡ 0 = sym (length-reverse log) ∙ ap length kept.marks.1 in
    record { marks = (kept.marks.0, kept.marks.1, none kept.marks.2); within = λ k d lt. absurd (omega arith); stamped = few; levels = kept.levels }
IsKept-grown cells more stamps others log entries (next ∷ below) kept closed none few = cc

-- a push
pub IsKept-push : {T : Type 0} (cells : List T) (stamps : List ℕ) (log : List (Saved T)) (entries : ℕ) (below : List ℕ) → IsKept cells stamps log entries below → length below + 1 < 2 ^ 32 → IsKept cells stamps log 0 (below ++ entries ∷ [])
IsKept-push cells stamps log entries below kept fits = record {
  marks = rw (reverse-append below (entries ∷ [])) (AreMarks-push entries (reverse below) (reverse log) stamps kept.marks);
  within = kept.within;
  stamped = kept.stamped;
  levels = omega (arith, length-append below (entries ∷ []));
}

-- a list of one element
pub All-one : {X : Type 0} (P : X → Type 0) (x : X) → P x → All P (x ∷ [])
All-one P x holds zero default within = holds
All-one P x holds (suc k) default within = absurd (omega arith)

-- an entry is put into the log, and its cell is stamped
pub IsKept-note : {T : Type 0} (cells : List T) (stamps : List ℕ) (entry : Saved T) (log : List (Saved T)) (entries : ℕ) (below : List ℕ) → IsKept cells stamps log entries below → entry.id < length cells → get_or stamps entry.id 0 ≢ length below → entry.stamp ≡ get_or stamps entry.id 0 → IsKept cells (set stamps entry.id (length below)) (log ++ entry ∷ []) (entries + 1) below
IsKept-note cells stamps entry log entries below kept inside other held =
    let height = length-reverse below in
    record {
      marks = rw (reverse-append log (entry ∷ []), ← height) (AreMarks-note entries (reverse below) entry (reverse log) stamps kept.marks (λ same. other (same ∙ height)) held (omega (arith, kept.stamped)));
      within = All-append (λ e. e.id < length cells) log (entry ∷ []) kept.within (All-one (λ e. e.id < length cells) entry inside);
      stamped = omega (arith, kept.stamped, length-set stamps entry.id (length below));
      levels = kept.levels;
    }

-- a stamp that was read is the level where no level is open
pub read-closed : {T : Type 0} (cells : List T) (stamps : List ℕ) (log : List (Saved T)) (entries : ℕ) (below : List ℕ) (at place stamp level : ℕ) → IsKept cells stamps log entries below → place < length cells → at ≡ place → stamp ≡ get_or stamps at stamp → level ≡ length below → length below ≡ 0 → stamp ≡ level
read-closed cells stamps log entries below at place stamp level kept inside same read is_level closed =
    let height : length (reverse below) ≡ length below = length-reverse below in
    let own : stamp ≡ get_or stamps place 0 = stamp_at stamps at place stamp (omega (arith, kept.stamped)) same read in
    let last : get_or stamps place 0 ≡ length (reverse below) = stamp-closed entries (reverse below) (reverse log) stamps place kept.marks (height ∙ closed) in
    omega arith

-- and so it is where the highest level's part of the log has the cell
pub read-noted : {T : Type 0} (cells : List T) (stamps : List ℕ) (log : List (Saved T)) (entries : ℕ) (below : List ℕ) (at place stamp level : ℕ) → IsKept cells stamps log entries below → place < length cells → at ≡ place → stamp ≡ get_or stamps at stamp → level ≡ length below → logged_places entries (reverse below) (reverse log) ≡ on_highest (with_place place) (logged_places entries (reverse below) (reverse log)) → stamp ≡ level
read-noted cells stamps log entries below at place stamp level kept inside same read is_level noted =
    let height : length (reverse below) ≡ length below = length-reverse below in
    let own : stamp ≡ get_or stamps place 0 = stamp_at stamps at place stamp (omega (arith, kept.stamped)) same read in
    let last : get_or stamps place 0 ≡ length (reverse below) = stamp-noted entries (reverse below) (reverse log) stamps place kept.marks noted in
    omega arith
