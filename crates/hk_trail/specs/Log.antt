-- The log: what its entries give back to the cells, and which cells each level wrote.
use Rattle.std.specs.Prelude.{ℕ, List, [], ◌∷◌, take, drop, map, slice_set}
use Rattle.hk_trail.specs.declared.saved.Saved.{Saved}

-- a list of cells after the entries of a log were taken back, the first entry first: each entry gives its
-- cell the part of it that is named
abbrev pub undone : {T X : Type 0} → (Saved T → X) → List (Saved T) → List X → List X
undone part [] cells = cells
undone part (entry ∷ log) cells = undone part log (slice_set cells entry.id (part entry))

-- what the cells held at each open push, the latest first, read off the log, whose latest entry is first:
-- `entries` of them are of the highest level, and `below` counts those of the levels below it
abbrev pub saved_contents : {T : Type 0} → ℕ → List ℕ → List (Saved T) → List T → List (List T)
saved_contents entries [] log cells = []
saved_contents entries (next ∷ below) log cells =
    let older = undone (λ entry. entry.value) (take entries log) cells in
    older ∷ saved_contents next below (drop entries log) older

-- the places that each open level's part of the log has, the highest level first
abbrev pub logged_places : {T : Type 0} → ℕ → List ℕ → List (Saved T) → List (List ℕ)
logged_places entries [] log = []
logged_places entries (next ∷ below) log = map (λ entry. entry.id) (take entries log) ∷ logged_places next below (drop entries log)
