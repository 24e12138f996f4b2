use Rattle.std.proofs.Common.{◌≡◌, ◌<◌, ◌^◌, length, All}
use Rattle.hk_prop.specs.inside.Narrowed.{AreMet}
use Rattle.hk_prop.proofs.narrowing.meet.Given as goal

-- the sets are met with those of the layers before this one
abbrev pub invariant-layers : goal.invariant-layers
invariant-layers l = record {
  long : length l.sets ≡ length l.fn.sets;
  small : All (λ set. set < 2 ^ 128) l.sets;
  met : AreMet l.vars l.supported l.layer l.fn.sets l.sets;
}
