use Rattle.std.proofs.Common.{◌≡◌, ◌++◌, take, drop}
use Rattle.hk_kinds.specs.Joins.{state_join}
use Rattle.hk_kinds.proofs.states.join_all.Given as goal

-- the join is what is joined so far, and then the join of the rest
abbrev pub invariant-loop-i : goal.invariant-loop-i
invariant-loop-i l = state_join l.kinds l.initial.mine l.theirs ≡ take l.i l.mine ++ state_join (drop l.i l.kinds) (drop l.i l.mine) (drop l.i l.theirs)
