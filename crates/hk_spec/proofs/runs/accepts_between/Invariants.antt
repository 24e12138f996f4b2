use Rattle.std.proofs.Common.{◌≡◌, ◌↔◌, reverse, drop}
use Rattle.hk_kinds.specs.Shapes.{HasShape}
use Rattle.hk_spec.specs.Runs.{Accepts, AcceptsFrom}
use Rattle.hk_spec.specs.Specifications.{down_shape}
use Rattle.hk_spec.specs.inside.UpStates.{exact_ups}
use Rattle.hk_spec.proofs.runs.accepts_between.Given as goal

-- the run accepts all values exactly where it accepts those that are left, from the down state at hand
abbrev pub invariant-loop-position : goal.invariant-loop-position
invariant-loop-position l = record {
  ups : l.ups.items ≡ reverse (exact_ups l.bound l.position (drop l.position l.values));
  shape : HasShape (down_shape l.bound.spec) l.down;
  left : Accepts l.bound l.best l.values ↔ AcceptsFrom l.bound l.best l.position l.down (drop l.position l.values);
}
