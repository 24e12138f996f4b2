use Rattle.std.proofs.Common.{◌≡◌, drop}
use Rattle.hk_kinds.specs.Covers.{state_covers}
use Rattle.hk_kinds.proofs.states.covers_all.Given as goal

-- the answer is that of the rest
abbrev pub invariant-loop-i : goal.invariant-loop-i
invariant-loop-i l = state_covers l.kinds l.mine l.theirs ≡ state_covers (drop l.i l.kinds) (drop l.i l.mine) (drop l.i l.theirs)
