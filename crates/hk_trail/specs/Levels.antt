-- What contracts see of a store, and of one of its pools.
use Rattle.std.specs.Prelude.{ℕ, List}
use Rattle.hk_trail.specs.Pools.{Content}
use Rattle.hk_trail.specs.Places.{Places}

-- a store: what its cells hold, what they held at each open push, the latest first, for each open level the
-- distinct cells that were written while it was the highest, and how many writes need no memory
pub record Levels : Type 0 where
  pub content : Content
  pub stack : List Content
  pub written : List Places
  pub spare : ℕ

-- the same of one pool, and how many pushes need no memory
pub record PoolLevels (T : Type 0) : Type 0 where
  pub content : List T
  pub stack : List (List T)
  pub written : List (List ℕ)
  pub spare : ℕ
  pub room : ℕ
