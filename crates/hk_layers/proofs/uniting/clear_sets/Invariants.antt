use Rattle.std.proofs.Common.{◌≡◌, replicate}
use Rattle.hk_layers.proofs.uniting.clear_sets.Given as goal

-- as many empty sets as turns were made
abbrev pub invariant-loop-made : goal.invariant-loop-made
invariant-loop-made l = l.froms.items ≡ replicate l._made 0
