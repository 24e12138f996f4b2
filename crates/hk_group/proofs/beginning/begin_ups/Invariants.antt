use Rattle.hk_group.proofs.Begun.{UpsToBegin}
use Rattle.hk_group.proofs.beginning.begin_ups.Given as goal

-- the initial values of the parts so far are written, and those of the others are left
abbrev pub invariant-loop-k : goal.invariant-loop-k
invariant-loop-k l = UpsToBegin l.parts l.k l.first l.to
