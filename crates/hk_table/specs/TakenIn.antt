-- What steps from rows of a layer are taken in.
use Rattle.std.specs.Prelude.{◌↔◌, ◌⊎◌, ℕ}
use Rattle.hk_base.specs.Sets.{Has}

-- a set of values and one of rows have, beside what they had, the values and the rows of these steps
pub record TakesIn (Step : ℕ → ℕ → Type 0) (old_values old_rows new_values new_rows : ℕ) : Type 0 where
  pub values : (value : ℕ) → Has new_values value ↔ (Has old_values value ⊎ ((next : ℕ) × Step value next))
  pub rows : (next : ℕ) → Has new_rows next ↔ (Has old_rows next ⊎ ((value : ℕ) × Step value next))
