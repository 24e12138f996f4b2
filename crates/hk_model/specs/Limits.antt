-- How much a model may hold beside its problem.
use Rattle.std.specs.Prelude.{ℕ}

-- how many specifications there are at most
abbrev pub most_specifications : ℕ
most_specifications = 64
