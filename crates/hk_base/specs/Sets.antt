-- Sets of values as numbers: what a set has.
use Rattle.std.specs.Prelude.{◌≡◌, ℕ}
use Rattle.std.specs.Int.{bit_at}

-- the set of values that this number stands for has the value: bit v of it is 1 for each value v
abbrev pub Has : ℕ → ℕ → Type 0
Has set value = bit_at set value ≡ 1
