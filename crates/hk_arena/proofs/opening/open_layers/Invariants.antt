use Rattle.std.proofs.Common.{◌≡◌}
use Rattle.hk_arena.specs.inside.Openings.{IsOpening}
use Rattle.hk_arena.proofs.opening.open_layers.Given as goal

-- the layers up to here are opened, and nothing but the table changed
abbrev pub invariant-loop-layer : goal.invariant-loop-layer
invariant-loop-layer g l = record {
  opening : IsOpening l.layer l.diagram;
  others : l.diagram ≡ record l.fn.diagram { table = l.diagram.table };
}
