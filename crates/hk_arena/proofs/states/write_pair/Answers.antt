use Rattle.std.proofs.Common.{ℕ, ◌+◌, arith}
use Rattle.hk_trail.specs.Levels.{Levels}
use Rattle.hk_arena.proofs.Writing.{IsWritten-then, nums_written}
use Rattle.hk_arena.specs.inside.Writes.{IsWritten, state_spans}
use Rattle.hk_arena.proofs.states.write_pair.Goals as goal

pub returns-in_err-write_num-clause-written : goal.returns-in_err-write_num-clause-written
returns-in_err-write_num-clause-written g c = nums_written c.args.at 1 c.args.at 2 0 0 1 2 c.args.store.now c.write_num.new.store (omega arith) (omega arith) (omega arith) c.write_num.ensures.written

both_written : (at : ℕ) (old middle new : Levels) → IsWritten (state_spans at 1 0 0) 1 old middle → IsWritten (state_spans (at + 1) 1 0 0) 1 middle new → IsWritten (state_spans at 2 0 0) 2 old new
both_written at old middle new first second = IsWritten-then (state_spans at 2 0 0) 1 1 old middle new (nums_written at 1 at 2 0 0 1 1 old middle (omega arith) (omega arith) (omega arith) first) (nums_written (at + 1) 1 at 2 0 0 1 1 middle new (omega arith) (omega arith) (omega arith) second)

pub returns-in_err-write_num-2-clause-written : goal.returns-in_err-write_num-2-clause-written
returns-in_err-write_num-2-clause-written g c = both_written c.args.at c.args.store.now c.write_num.new.store c.write_num-2.new.store c.write_num.ensures.written c.write_num-2.ensures.written

pub returns-clause-written : goal.returns-clause-written
returns-clause-written g c = both_written c.args.at c.args.store.now c.write_num.new.store c.write_num-2.new.store c.write_num.ensures.written c.write_num-2.ensures.written
