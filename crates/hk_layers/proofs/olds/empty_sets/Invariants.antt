use Rattle.std.proofs.Common.{◌≡◌, replicate}
use Rattle.hk_layers.proofs.olds.empty_sets.Given as goal

-- as many sets as turns were made
abbrev pub invariant-loop-made : goal.invariant-loop-made
invariant-loop-made l = l.sets.items ≡ replicate l._made 0
