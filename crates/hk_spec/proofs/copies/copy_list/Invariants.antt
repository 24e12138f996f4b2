use Rattle.std.proofs.Common.{◌≡◌, take}
use Rattle.hk_spec.proofs.copies.copy_list.Given as goal

-- the copy holds the items so far
abbrev pub invariant-loop-item : goal.invariant-loop-item
invariant-loop-item g l = l.copy ≡ take l.item-index l.items
