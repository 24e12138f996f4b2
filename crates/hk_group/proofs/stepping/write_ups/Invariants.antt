use Rattle.hk_group.proofs.Written.{UpsLeft}
use Rattle.hk_group.proofs.stepping.write_ups.Given as goal

-- the steps of the parts so far are written, and those of the others are left
abbrev pub invariant-loop-k : goal.invariant-loop-k
invariant-loop-k l = UpsLeft l.parts l.places l.value l.from l.k l.first l.to
