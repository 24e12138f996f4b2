use Rattle.std.proofs.Common.{◌≡◌, take}
use Rattle.hk_spec.specs.Library.{gcc_bounds}
use Rattle.hk_lib.proofs.counting.gcc.Given as goal

-- the bounds are those of the rows so far
abbrev pub invariant-loop-row : goal.invariant-loop-row
invariant-loop-row l = l.bounds ≡ gcc_bounds l.n (take l.row-index l.rows)
