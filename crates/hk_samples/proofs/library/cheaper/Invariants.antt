use Rattle.std.proofs.Common.{◌≤◌}
use Rattle.hk_samples.proofs.library.cheaper.Given as goal

-- no more lists are counted than there were
abbrev pub invariant-loop-number : goal.invariant-loop-number
invariant-loop-number l = l.count ≤ l.number
