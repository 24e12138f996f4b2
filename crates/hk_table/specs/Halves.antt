-- The halves of a set of rows.
use Rattle.std.specs.Prelude.{ℕ, ◌^◌, ◌<◌}

-- each half has 128 bits
pub record AreHalves (low high : ℕ) : Type 0 where
  pub low_fits : low < 2 ^ 128
  pub high_fits : high < 2 ^ 128
