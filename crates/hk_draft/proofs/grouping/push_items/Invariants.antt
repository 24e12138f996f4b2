use Rattle.std.proofs.Common.{◌≡◌, ◌++◌, drop}
use Rattle.hk_group.specs.Composed.{HaveLengths, parts_of}
use Rattle.hk_draft.specs.inside.Items.{item_parts}
use Rattle.hk_draft.proofs.grouping.push_items.Given as goal

-- the parts so far, and those of the items that are left, are all
abbrev pub invariant-loop-item : goal.invariant-loop-item
invariant-loop-item l = record {
  parts : item_parts l.items ≡ parts_of l.specs l.scopes ++ item_parts (drop l.item-index l.items);
  lengths : HaveLengths l.specs l.scopes;
}
