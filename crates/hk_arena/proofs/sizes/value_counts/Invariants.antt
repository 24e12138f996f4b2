use Rattle.std.proofs.Common.{◌≡◌, length}
use Rattle.hk_arena.specs.Diagrams.{values_of}
use Rattle.hk_arena.specs.Cells.{listed}
use Rattle.hk_arena.proofs.sizes.value_counts.Given as goal

-- the layers up to here are counted
abbrev pub invariant-loop-set : goal.invariant-loop-set
invariant-loop-set l = l.counts.items ≡ listed l.set-index (λ layer. length (values_of l.fn.shape layer))
