use Rattle.std.proofs.Common.{rules, set}
use Rattle.std.proofs.Math.Facts.{to_z-of_z}
use Rattle.hk_arena.proofs.Writing.{touched_num, touched_result}
use Rattle.hk_arena.specs.inside.Writes.{state_spans}
use Rattle.hk_arena.proofs.cells.write_num.Goals as goal

pub returns-clause-written : goal.returns-clause-written
returns-clause-written g c =
    let old = c.args.store.now in
    record {
      touched = touched_result (state_spans c.args.at 1 0 0) old c.set_num.new.self (record old.content { nums = set old.content.nums c.args.at c.args.value }) c.set_num.result
          (touched_num old.content c.args.at c.args.value c.requires.limit) (rw (to_z-of_z c.ranges.value, c.num_id.ensures) at c.set_num.ensures.content) c.set_num.ensures.refused;
      stack = c.set_num.ensures.stack;
      raised = search rules;
    }
