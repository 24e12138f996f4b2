use Rattle.std.proofs.Common.{◌≡◌}
use Rattle.hk_sweep.specs.Revising.{AreFor}
use Rattle.hk_revised.proofs.running.are_revised.Given as goal

-- the table alone is another one, and the buffers suit the group
abbrev pub invariant-loop-revision : goal.invariant-loop-revision
invariant-loop-revision g l = (l.diagram ≡ record l.initial.diagram { table = l.diagram.table; numbers = l.diagram.numbers }) × AreFor l.group l.buffers
