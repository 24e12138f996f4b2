use Rattle.std.proofs.Common.{◌≡◌}
use Rattle.hk_spec.specs.Library.{lags_from}
use Rattle.hk_lib.proofs.sequences.lags.Given as goal

-- the properties of the places so far
abbrev pub invariant-loop-place : goal.invariant-loop-place
invariant-loop-place l = l.lags ≡ lags_from 0 l.place
