use Rattle.std.proofs.Common.{◌≡◌, Some, replicate}
use Rattle.hk_layers.proofs.ups.Ups.last.Given as goal

-- as many rows as turns were made
abbrev pub invariant-loop-made : goal.invariant-loop-made
invariant-loop-made l = record { width : l.self.width ≡ l.fn.self.width; ups : l.self.ups ≡ replicate l._made (Some l.initial') }
