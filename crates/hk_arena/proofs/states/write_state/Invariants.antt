use Rattle.std.proofs.Common.{◌≡◌, ◌+◌, ◌*◌, ◌≤◌, take}
use Rattle.hk_arena.specs.Forms.{nums_in, sets_in}
use Rattle.hk_arena.specs.Properties.{state_at}
use Rattle.hk_arena.specs.inside.Writes.{IsWritten, state_spans}
use Rattle.hk_arena.proofs.states.write_state.Given as goal

-- the cells up to the next property's hold the properties before it
abbrev pub invariant-loop-at : goal.invariant-loop-at
invariant-loop-at g l = record {
  nums : l.num ≡ l.first_num + nums_in (take l.at l.kinds);
  sets : l.set ≡ l.first_set + sets_in (take l.at l.kinds);
  done : state_at (take l.at l.kinds) l.first_num l.first_set l.store.content.nums l.store.content.bits ≡ take l.at l.value;
  written : IsWritten (state_spans l.first_num (nums_in l.kinds) l.first_set (sets_in l.kinds)) (2 * l.at) l.initial.store l.store;
  ticks : l.steps ≤ l.initial.steps + 2 * l.at;
}
