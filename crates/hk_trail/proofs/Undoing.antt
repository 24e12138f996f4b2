use Rattle.std.proofs.Common.{◌≡◌, ℕ, List, [], ◌∷◌, map, set, get_or, true, false, ◌||◌, nat_eq, sym, ◌∙◌, ap, inl, inr}
use Rattle.std.proofs.lemmas.List.{set-set, set_comm, set-get_or}
use Rattle.std.proofs.lemmas.Bool.Decides.{eqb_tells}
use Rattle.hk_trail.specs.declared.saved.Saved.{Saved}
use Rattle.hk_trail.specs.Log.{undone}
use Rattle.hk_trail.specs.Places.{has_place}

-- a place that isn't the first one is among the rest
pub has_place-rest : (place first : ℕ) (rest : List ℕ) → nat_eq place first ≡ false → has_place (first ∷ rest) place ≡ true → has_place rest place ≡ true
has_place-rest place first rest other has = sym (ap (λ same. same || has_place rest place) other) ∙ has

-- a cell that the entries have comes back whatever was written in it
pub undone-set : {T X : Type 0} (part : Saved T → X) (log : List (Saved T)) (cells : List X) (place : ℕ) (value : X) → has_place (map (λ e. e.id) log) place ≡ true → undone part log (set cells place value) ≡ undone part log cells
undone-set part [] cells place value has = cc
undone-set part (entry ∷ log) cells place value has =
    elim (eqb_tells place entry.id) [
      | inl same ↦ ap (undone part log) (ap (λ k. set (set cells k value) entry.id (part entry)) same.1 ∙ set-set cells entry.id value (part entry))
      | inr other ↦ ap (undone part log) (set_comm cells place entry.id value (part entry) other.1)
          ∙ undone-set part log (set cells entry.id (part entry)) place value (has_place-rest place entry.id (map (λ e. e.id) log) other.0 has)
    ]

-- an entry that holds what its cell held is taken back to the cells before the write
pub undone-written : {T X : Type 0} (part : Saved T → X) (entry : Saved T) (log : List (Saved T)) (cells : List X) (value default : X) → part entry ≡ get_or cells entry.id default → undone part (entry ∷ log) (set cells entry.id value) ≡ undone part log cells
undone-written part entry log cells value default held =
    ap (undone part log) (set-set cells entry.id value (part entry) ∙ ap (set cells entry.id) held ∙ set-get_or cells entry.id default)

-- an entry that holds what its cell holds changes nothing
pub undone-held : {T X : Type 0} (part : Saved T → X) (entry : Saved T) (log : List (Saved T)) (cells : List X) → part entry ≡ get_or cells entry.id (part entry) → undone part (entry ∷ log) cells ≡ undone part log cells
undone-held part entry log cells held =
    ap (undone part log) (ap (set cells entry.id) held ∙ set-get_or cells entry.id (part entry))
