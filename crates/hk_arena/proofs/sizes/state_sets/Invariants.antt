use Rattle.std.proofs.Common.{◌≡◌, ◌+◌, drop}
use Rattle.hk_arena.specs.Forms.{sets_in}
use Rattle.hk_arena.proofs.sizes.state_sets.Given as goal

-- the cells so far and those of the kinds that are left are all
abbrev pub invariant-loop-kind : goal.invariant-loop-kind
invariant-loop-kind l = l.cells + sets_in (drop l.kind-index l.kinds) ≡ sets_in l.kinds
