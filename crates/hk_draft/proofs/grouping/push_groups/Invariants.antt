use Rattle.std.proofs.Common.{◌≡◌, ◌⊎◌, [], length, map}
use Rattle.std.specs.Prelude.{All}
use Rattle.hk_group.specs.Groups.{PlainGroup, IsGroup}
use Rattle.hk_draft.specs.Items.{gather}
use Rattle.hk_draft.specs.inside.Items.{AreSmallItems, BeginsGroup}
use Rattle.hk_draft.proofs.grouping.push_groups.Given as goal

-- the groups so far are composed; with what is left, whose first item begins a group, they are all
abbrev pub invariant-groups : goal.invariant-groups
invariant-groups l = record {
  gathered : gather (map (λ (group : PlainGroup). group.parts) l.groups) l.rest ≡ gather [] l.items;
  begins : (l.groups ≡ []) ⊎ BeginsGroup l.rest;
  composed : All IsGroup l.groups;
  small : AreSmallItems l.rest;
}

abbrev pub decreases-groups : goal.decreases-groups
decreases-groups l = length l.rest
