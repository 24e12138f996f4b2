-- Sets of values as numbers: what a set has, and a set with one value taken away.
use Rattle.std.specs.Prelude.{◌≡◌, ◌≢◌, ℕ, ◌<◌}
use Rattle.std.specs.Int.{bit_at}
use Rattle.hk_base.specs.Sets.{Has}

-- a value is the only one of a set
pub record IsOnlyValue (set value : ℕ) : Type 0 where
  pub within : value < 128
  pub has : Has set value
  pub only : (other : ℕ) → other < 128 → Has set other → other ≡ value

-- a set has two values or more
pub record HasSeveral (set : ℕ) : Type 0 where
  pub low : ℕ
  pub high : ℕ
  pub apart : low < high
  pub within : high < 128
  pub has_low : Has set low
  pub has_high : Has set high

-- a set without one value, and with all other bits as they were
pub record IsWithout (set value rest : ℕ) : Type 0 where
  pub gone : bit_at rest value ≡ 0
  pub others : (other : ℕ) → other ≢ value → bit_at rest other ≡ bit_at set other
