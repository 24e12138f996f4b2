-- How great numbers may be.
use Rattle.std.specs.Prelude.{ℤ, pos}

-- the limit of the numbers of states, expressions and bounds: none is greater, and none less than its negative
abbrev pub number_limit : ℤ
number_limit = pos 1000000000000
