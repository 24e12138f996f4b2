-- Sets of values.
use Rattle.std.specs.Prelude.{ℕ, ◌^◌, ◌<◌}
use Rattle.hk_base.specs.Sets.{Has}

-- each value of the inner set is in the outer
pub record IsSubset (inner outer : ℕ) : Type 0 where
  pub within : (value : ℕ) → Has inner value → Has outer value

-- the set has no values but 0 to 127
abbrev pub IsSet : ℕ → Type 0
IsSet set = set < 2 ^ 128
