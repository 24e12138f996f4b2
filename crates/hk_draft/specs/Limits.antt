-- How great the numbers of a statement may be.
use Rattle.std.specs.Prelude.{ℕ}

-- how many variables a statement may ask for at most
abbrev pub most_times : ℕ
most_times = 1000000000000
