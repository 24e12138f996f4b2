-- How many distinct cells a level wrote, and how much a call adds.
use Rattle.std.specs.Prelude.{◌≡◌, ℕ, ◌+◌, ◌≤◌, List}
use Rattle.hk_trail.specs.Places.{on_highest}

-- the number of the highest open level rose by no more than this, and those below it are as they were
pub record IsRaised (most : ℕ) (old new : List ℕ) : Type 0 where
  pub more : ℕ
  pub few : more ≤ most
  pub numbers : new ≡ on_highest (λ number. number + more) old
