use Rattle.std.proofs.Common.{◌≡◌, ◌≤◌, length, reverse, drop}
use Rattle.hk_kinds.specs.Shapes.{HasShape}
use Rattle.hk_spec.specs.Runs.{exact_up}
use Rattle.hk_spec.specs.Specifications.{up_shape}
use Rattle.hk_spec.specs.inside.UpStates.{exact_ups}
use Rattle.hk_spec.proofs.runs.up_states.Given as goal

-- the up states from the position on are kept, and the one before it is at hand
abbrev pub invariant-back : goal.invariant-back
invariant-back l = record {
  within : l.position ≤ length l.values;
  kept : l.ups.items ≡ reverse (exact_ups l.bound l.position (drop l.position l.values));
  at_hand : l.up ≡ exact_up l.bound l.position (drop l.position l.values);
  shape : HasShape (up_shape l.bound.spec) l.up;
}

abbrev pub decreases-back : goal.decreases-back
decreases-back l = l.position
