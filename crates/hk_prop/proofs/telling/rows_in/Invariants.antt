use Rattle.std.proofs.Common.{◌≡◌}
use Rattle.hk_text.specs.Sets.{members_below}
use Rattle.hk_prop.proofs.telling.rows_in.Given as goal

-- the rows below this one that the set has
abbrev pub invariant-rows : goal.invariant-rows
invariant-rows l = l.rows ≡ members_below l.set l.row
