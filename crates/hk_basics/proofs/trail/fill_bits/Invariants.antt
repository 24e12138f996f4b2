use Rattle.std.proofs.Common.{◌≡◌}
use Rattle.hk_trail.specs.Pools.{HasSizes}
use Rattle.hk_basics.proofs.trail.fill_bits.Given as goal

abbrev pub invariant-loop-at : goal.invariant-loop-at
invariant-loop-at g l = record { sizes : HasSizes l.initial.store.content l.store.content; stack : l.store.stack ≡ l.initial.store.stack }
