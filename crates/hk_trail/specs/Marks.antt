-- Stamps: what they tell of the log, and what holds of one pool between two calls.
use Rattle.std.specs.Prelude.{◌≡◌, ℕ, ◌+◌, ◌≤◌, ◌<◌, ◌^◌, List, [], ◌∷◌, take, drop, map, length, reverse, slice_index, nat_eq, All}
use Rattle.std.specs.List.{IsDistinct}
use Rattle.hk_trail.specs.declared.saved.Saved.{Saved}
use Rattle.hk_trail.specs.Log.{undone}
use Rattle.hk_trail.specs.Places.{has_place}

-- the stamps tell which cells the highest level's part of the log has, and it has each once
pub record IsStamped (level : ℕ) (places stamps : List ℕ) : Type 0 where
  pub once : IsDistinct nat_eq places
  pub here : (place : ℕ) → has_place places place ≡ nat_eq (slice_index stamps place) level
  pub at_most : (place : ℕ) → slice_index stamps place ≤ level

-- each stamp is the highest level whose part of the log has the cell, or 0 where none has, and the stamp in
-- an entry is that of the levels below it: taking back a level's entries gives the stamps of the level below
abbrev pub AreMarks : {T : Type 0} → ℕ → List ℕ → List (Saved T) → List ℕ → Type 0
AreMarks entries [] log stamps = (entries ≡ 0) × (log ≡ []) × ((place : ℕ) → slice_index stamps place ≡ 0)
AreMarks entries (next ∷ below) log stamps =
    (entries ≤ length log) × IsStamped (length below + 1) (map (λ entry. entry.id) (take entries log)) stamps
    × AreMarks next below (drop entries log) (undone (λ entry. entry.stamp) (take entries log) stamps)

-- what holds of one pool's cells, stamps and log between two calls
pub record IsKept {T : Type 0} (cells : List T) (stamps : List ℕ) (log : List (Saved T)) (entries : ℕ) (below : List ℕ) : Type 0 where
  pub marks : AreMarks entries (reverse below) (reverse log) stamps
  pub within : All (λ entry. entry.id < length cells) log
  pub stamped : length cells ≤ length stamps
  pub levels : length below < 2 ^ 32
