use Rattle.std.proofs.Common.{◌≡◌, take}
use Rattle.std.specs.List.{sum_by}
use Rattle.hk_group.specs.Widths.{group_values}
use Rattle.hk_group.proofs.widths.all_values.Given as goal

-- the values of the groups so far
abbrev pub invariant-loop-group : goal.invariant-loop-group
invariant-loop-group l = l.sum ≡ sum_by (group_values l.domains) (take l.group-index l.groups)
