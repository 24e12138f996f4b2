-- The set of a range.
use Rattle.std.specs.Prelude.{ℕ, ◌<◌, ◌≤◌, ◌^◌, ◌↔◌}
use Rattle.hk_base.specs.Sets.{Has}

-- the set of the values from first to last
pub record IsRange (first last set : ℕ) : Type 0 where
  pub small : set < 2 ^ 128
  pub values : (value : ℕ) → Has set value ↔ ((first ≤ value) × (value ≤ last))
