use Rattle.hk_group.proofs.Written.{DownsLeft}
use Rattle.hk_group.proofs.stepping.write_downs.Given as goal

-- the steps of the parts so far are written, and those of the others are left
abbrev pub invariant-loop-k : goal.invariant-loop-k
invariant-loop-k l = DownsLeft l.parts l.places l.value l.from l.k l.first l.to
