use Rattle.std.proofs.Common.{◌≡◌, ◌≤◌, length, All}
use Rattle.hk_sweep.specs.Views.{FallenView}
use Rattle.hk_sweep.proofs.fallen.add_layers.Given as goal

-- there are as many layers as turns were made, and their states have so many properties
abbrev pub invariant-loop-made : goal.invariant-loop-made
invariant-loop-made l = record {
  room : l._made ≤ length l.layers.items;
  widths : All (λ (layer : FallenView). layer.width ≡ l.width) l.layers.items;
}
