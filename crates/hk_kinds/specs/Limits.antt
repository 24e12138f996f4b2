-- Numbers within the limit, and the nearest one to any number.
use Rattle.std.specs.Prelude.{ℤ, neg_ℤ, ◌≤ℤ◌}
use Rattle.std.specs.Int.{int_max, int_min}
use Rattle.hk_base.specs.Limits.{number_limit}

-- the number from -1,000,000,000,000 to 1,000,000,000,000 that is nearest to n
abbrev pub clamped : ℤ → ℤ
clamped n = int_max (int_min n number_limit) (neg_ℤ number_limit)

-- the number lies from -1,000,000,000,000 to 1,000,000,000,000
pub record IsWithinLimit (n : ℤ) : Type 0 where
  pub least : neg_ℤ number_limit ≤ℤ n
  pub most : n ≤ℤ number_limit
