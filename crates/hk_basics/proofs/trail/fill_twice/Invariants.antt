use Rattle.std.proofs.Common.{◌≡◌}
use Rattle.hk_trail.specs.Pools.{HasSizes}
use Rattle.hk_basics.proofs.trail.fill_twice.Given as goal

abbrev pub invariant-loop-value : goal.invariant-loop-value
invariant-loop-value g l = record { sizes : HasSizes l.initial.store.content l.store.content; stack : l.store.stack ≡ l.initial.store.stack }
