use Rattle.std.proofs.Common.{take}
use Rattle.hk_draft.specs.inside.Items.{IsRun}
use Rattle.hk_draft.proofs.grouping.run_len.Given as goal

-- the items so far are a run
abbrev pub invariant-loop-place : goal.invariant-loop-place
invariant-loop-place l = IsRun (take l.place l.items)
