use Rattle.std.proofs.Common.{◌≡◌, ◌+◌, ◌*◌, ◌≤◌, drop}
use Rattle.hk_prop.specs.Contents.{values_left}
use Rattle.hk_prop.proofs.counting.count_values.Given as goal

-- the values that are counted, and those of the sets that are left
abbrev pub invariant-sets : goal.invariant-sets
invariant-sets l = record {
  whole : values_left l.sets ≡ l.count + values_left (drop l.set-index l.sets);
  few : l.count ≤ 128 * l.set-index;
}
