use Rattle.std.proofs.Common.{◌≡◌, ◌≤◌, List, [], length, drop}
use Rattle.hk_group.specs.Groups.{Part}
use Rattle.hk_draft.specs.Items.{gather}
use Rattle.hk_draft.proofs.items.group_count.Given as goal

-- so many groups are gathered so far, and with what is left they are all; each item makes one more at most
abbrev pub invariant-loop-item : goal.invariant-loop-item
invariant-loop-item l = (groups : List (List Part)) × (length groups ≡ l.count) × (gather groups (drop l.item-index l.items) ≡ gather [] l.items) × (l.count ≤ l.item-index)
