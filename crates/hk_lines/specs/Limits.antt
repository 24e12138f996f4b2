-- A number that stands for all numbers above the limits.
use Rattle.std.specs.Prelude.{ℕ}

-- one above the greatest limit of a model's numbers
abbrev pub above_limits : ℕ
above_limits = 1000000000001
