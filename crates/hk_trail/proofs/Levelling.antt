use Rattle.std.proofs.Common.{◌≡◌, ℕ, ◌+◌, suc, List, [], ◌∷◌, length, take, drop, map, set, get_or, Bool, true, false, refl, ◌∙◌, ap, arith, cond, add-one, reverse}
use Rattle.std.proofs.lemmas.List.{length-reverse}
use Rattle.hk_trail.specs.declared.saved.Saved.{Saved}
use Rattle.hk_trail.specs.Log.{undone, saved_contents, logged_places}
use Rattle.hk_trail.specs.Places.{has_place, with_place, on_highest}
use Rattle.hk_trail.proofs.Undoing.{undone-set, undone-held}

-- a saved content for each level
pub length-saved_contents : {T : Type 0} (entries : ℕ) (below : List ℕ) (log : List (Saved T)) (cells : List T) → length (saved_contents entries below log cells) ≡ length below
length-saved_contents entries [] log cells = refl
length-saved_contents entries (next ∷ below) log cells =
    ap suc (length-saved_contents next below (drop entries log) (undone (λ entry. entry.value) (take entries log) cells))

-- the same of the counts as they stand, the oldest level first
pub length-stack : {T : Type 0} (entries : ℕ) (below : List ℕ) (log : List (Saved T)) (cells : List T) → length (saved_contents entries (reverse below) log cells) ≡ length below
length-stack entries below log cells = length-saved_contents entries (reverse below) log cells ∙ length-reverse below

-- where no level is open nothing is saved, whatever the cells hold
pub saved_contents-closed : {T : Type 0} (entries : ℕ) (below : List ℕ) (log : List (Saved T)) (cells others : List T) → length below ≡ 0 → saved_contents entries (reverse below) log cells ≡ saved_contents entries (reverse below) log others
saved_contents-closed entries [] log cells others closed = refl
saved_contents-closed entries (next ∷ below) log cells others closed = cc

-- a list that one more place leaves as it is has the place
pub has_place-with_place : (place : ℕ) (places : List ℕ) → places ≡ with_place place places → has_place places place ≡ true
has_place-with_place place places same =
    let P : Bool → Type 0 = λ has. places ≡ cond has places (place ∷ places) → has ≡ true in
    elim (has_place places place) as P [ true ↦ λ _. refl | false ↦ λ longer. absurd (omega (arith, ap length longer)) ] same

-- a place that a list has changes nothing
pub with_place-twice : (place : ℕ) (places : List ℕ) → has_place places place ≡ true → with_place place places ≡ places
with_place-twice place places has = ap (λ b. cond b places (place ∷ places)) has

-- a place that a list lacks comes in front
pub with_place-new : (place : ℕ) (places : List ℕ) → has_place places place ≡ false → with_place place places ≡ place ∷ places
with_place-new place places not_has = ap (λ b. cond b places (place ∷ places)) not_has

-- a write of a cell that the highest level's part of the log has leaves what was saved
pub saved_contents-set : {T : Type 0} (entries : ℕ) (below : List ℕ) (log : List (Saved T)) (cells : List T) (place : ℕ) (value : T) → logged_places entries below log ≡ on_highest (with_place place) (logged_places entries below log) → saved_contents entries below log (set cells place value) ≡ saved_contents entries below log cells
saved_contents-set entries [] log cells place value noted = refl
saved_contents-set entries (next ∷ below) log cells place value noted =
    let same : map (λ e. e.id) (take entries log) ≡ with_place place (map (λ e. e.id) (take entries log)) = cc in
    ap (λ older. older ∷ saved_contents next below (drop entries log) older)
    (undone-set (λ entry. entry.value) (take entries log) cells place value (has_place-with_place place _ same))

-- an entry of what its cell holds leaves what was saved
pub saved_contents-note : {T : Type 0} (entries : ℕ) (below : List ℕ) (entry : Saved T) (log : List (Saved T)) (cells : List T) → entry.value ≡ get_or cells entry.id entry.value → saved_contents (entries + 1) below (entry ∷ log) cells ≡ saved_contents entries below log cells
saved_contents-note entries [] entry log cells held = refl
saved_contents-note entries (next ∷ below) entry log cells held =
    rw add-one (ap (λ older. older ∷ saved_contents next below (drop entries log) older) (undone-held (λ e. e.value) entry (take entries log) cells held))
