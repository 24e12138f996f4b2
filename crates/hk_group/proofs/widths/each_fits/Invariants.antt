use Rattle.std.proofs.Common.{◌*◌, ◌≤◌, All, take}
use Rattle.hk_group.specs.Groups.{PlainGroup}
use Rattle.hk_group.specs.Limits.{most_group_entries}
use Rattle.hk_group.specs.Widths.{group_values}
use Rattle.hk_group.proofs.widths.each_fits.Given as goal

-- the groups so far have no more entries than they may
abbrev pub invariant-loop-group : goal.invariant-loop-group
invariant-loop-group l = All (λ (g : PlainGroup). l.width * group_values l.domains g ≤ most_group_entries) (take l.group-index l.groups)
