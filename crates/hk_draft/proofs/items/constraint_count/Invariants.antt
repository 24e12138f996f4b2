use Rattle.std.proofs.Common.{◌≡◌, ◌+◌, ◌≤◌, length, drop}
use Rattle.hk_draft.specs.Items.{constraints_of}
use Rattle.hk_draft.proofs.items.constraint_count.Given as goal

-- those counted so far, and those that are left, are all; each item has one at most
abbrev pub invariant-loop-item : goal.invariant-loop-item
invariant-loop-item l = record {
  counted : length (constraints_of l.items) ≡ l.count + length (constraints_of (drop l.item-index l.items));
  few : l.count ≤ l.item-index;
}
