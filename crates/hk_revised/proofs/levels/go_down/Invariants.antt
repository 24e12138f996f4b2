use Rattle.std.proofs.Common.{◌≡◌, ◌+◌, length}
use Rattle.hk_revised.proofs.levels.go_down.Given as goal

-- a level is closed at each turn, and the diagram is for the group as before
abbrev pub invariant-loop-level : goal.invariant-loop-level
invariant-loop-level g l = (l.diagram.shape ≡ l.initial.diagram.shape) × (l.diagram.width ≡ l.initial.diagram.width) × (length l.diagram.stack + l.level ≡ 1000)
