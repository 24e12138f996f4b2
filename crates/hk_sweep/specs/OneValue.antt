-- When sets have one value left.
use Rattle.std.specs.Prelude.{◌≡◌, ℕ, List, [], ◌∷◌}
use Rattle.hk_base.specs.Sets.{Has}

-- the values are all that the sets have: one for each set, and no set has another than its own
pub data AreOnly : List ℕ → List ℕ → Type 0 where
  only_none : AreOnly [] []
  only_more : {set value : ℕ} {sets values : List ℕ} → ((other : ℕ) → Has set other → other ≡ value) → AreOnly sets values → AreOnly (set ∷ sets) (value ∷ values)
