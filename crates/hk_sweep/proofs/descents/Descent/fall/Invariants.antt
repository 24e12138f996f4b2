use Rattle.std.proofs.Common.{◌≡◌, ◌≤◌, length}
use Rattle.hk_sweep.specs.inside.Fallen.{AreFallen, IsFallen, reached}
use Rattle.hk_sweep.proofs.descents.Descent.fall.Given as goal

-- the layers down to this one lead on from row 0
abbrev pub invariant-loop-layer : goal.invariant-loop-layer
invariant-loop-layer l = record {
  fallen : AreFallen l.frame l.diagram.shape.domains l.diagram.table (reached l.layer l.self);
  here : IsFallen l.frame l.self.here;
  room : length l.diagram.shape.domains ≤ length l.self.layers;
  width : l.self.width ≡ l.fn.self.width;
  top : l.self.top ≡ l.fn.self.top;
}
