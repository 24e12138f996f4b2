use Rattle.std.proofs.Common.{◌≡◌, length}
use Rattle.hk_sweep.specs.Revising.{AreFor}
use Rattle.hk_revised.proofs.levels.go_up.Given as goal

-- there is a level and a list of lines for each turn, and the diagram and the buffers are for the group as before
abbrev pub invariant-loop-level : goal.invariant-loop-level
invariant-loop-level g l = (l.diagram.shape ≡ l.initial.diagram.shape) × (l.diagram.width ≡ l.initial.diagram.width) × (length l.diagram.stack ≡ l.level) × (length l.tables ≡ l.level) × AreFor l.group l.buffers
