-- What a host in memory takes at a slot for writing.
use Rattle.std.specs.Prelude.{ℕ, List}

-- the bytes that were written, and how many there is room for in all
pub record Written : Type 0 where
  pub bytes : List ℕ
  pub room : ℕ
