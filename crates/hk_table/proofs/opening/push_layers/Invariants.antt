use Rattle.std.proofs.Common.{◌≡◌, ◌++◌, drop, map}
use Rattle.hk_table.specs.Opening.{opening_layers, opening_table}
use Rattle.hk_table.proofs.opening.push_layers.Given as goal
use Rattle.hk_text.specs.Sets.{members}

-- what is made and what is left are the whole
abbrev pub invariant-loop-set : goal.invariant-loop-set
invariant-loop-set l = l.fn.layers ++ opening_table l.shape ≡ l.layers ++ opening_layers l.shape.down l.shape.up (map members (drop l.set-index l.set-items))
