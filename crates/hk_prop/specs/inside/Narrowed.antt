-- How the values that tables don't support are removed, one set after the other.
use Rattle.std.specs.Prelude.{◌≡◌, ◌↔◌, ℕ, ◌<◌, List, length, slice_index}
use Rattle.hk_base.specs.Sets.{Has}

-- of each variable, the sets have the values that they had and that stand in the supported set of each layer of it, among
-- so many layers
abbrev pub AreMet : List ℕ → List ℕ → ℕ → List ℕ → List ℕ → Type 0
AreMet vars supported count old new = (variable value : ℕ) → variable < length old
    → Has (slice_index new variable) value ↔ (Has (slice_index old variable) value × ((layer : ℕ) → layer < count → slice_index vars layer ≡ variable → Has (slice_index supported layer) value))
