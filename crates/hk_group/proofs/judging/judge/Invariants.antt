use Rattle.std.proofs.Common.{All, take}
use Rattle.hk_group.specs.Solutions.{Holds}
use Rattle.hk_group.proofs.judging.judge.Given as goal

abbrev pub invariant-loop-constraint : goal.invariant-loop-constraint
invariant-loop-constraint l = All (Holds l.values) (take l.constraint-index l.constraint-items)
