-- How much a model may have.
use Rattle.std.specs.Prelude.{ℕ}

-- how many bytes a model has at most: 1,048,576
abbrev pub most_bytes : ℕ
most_bytes = 1048576
