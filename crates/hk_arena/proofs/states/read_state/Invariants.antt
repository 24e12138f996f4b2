use Rattle.std.proofs.Common.{◌≡◌, ◌+◌, ◌++◌, length, take, drop}
use Rattle.hk_arena.specs.Forms.{nums_in, sets_in}
use Rattle.hk_arena.specs.Properties.{state_at}
use Rattle.hk_arena.proofs.states.read_state.Given as goal

-- the state is what is read so far, and then that of the kinds that are left
abbrev pub invariant-loop-at : goal.invariant-loop-at
invariant-loop-at l = record {
  nums : l.num + nums_in (drop l.at l.kinds) ≡ l.first_num + nums_in l.kinds;
  sets : l.set + sets_in (drop l.at l.kinds) ≡ l.first_set + sets_in l.kinds;
  long : length l.to ≡ length l.kinds;
  left : take l.at l.to ++ state_at (drop l.at l.kinds) l.num l.set l.store.content.nums l.store.content.bits ≡ state_at l.kinds l.first_num l.first_set l.store.content.nums l.store.content.bits;
}
