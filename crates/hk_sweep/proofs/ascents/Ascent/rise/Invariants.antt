use Rattle.std.proofs.Common.{◌≡◌, ◌≤◌, length, slice_index_or}
use Rattle.hk_sweep.proofs.ascents.Ascent.rise.Given as goal
use Rattle.hk_sweep.specs.inside.Fallen.{no_layer, reached}
use Rattle.hk_sweep.specs.inside.Rising.{IsRisen}

-- the layers from this one on are those of the tight revision of the first table
abbrev pub invariant-loop-layer : goal.invariant-loop-layer
invariant-loop-layer g l =
    let sets = l.fn.diagram.shape.domains in record {
      within : l.layer ≤ length sets;
      risen : IsRisen l.frame sets l.fn.diagram.table l.layer (slice_index_or (reached (length sets) l.descent) l.layer no_layer).halves l.diagram.table l.self.below;
      others : l.diagram ≡ record l.fn.diagram { table = l.diagram.table; numbers = l.diagram.numbers };
      width : l.self.width ≡ l.fn.self.width;
    }

abbrev pub decreases-loop-layer : goal.decreases-loop-layer
decreases-loop-layer g l = l.layer
