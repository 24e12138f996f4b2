use Rattle.std.proofs.Common.{◌+◌, ◌%◌, arith, length-set}
use Rattle.hk_text.proofs.Digits.{room, written_next, written_all}
use Rattle.hk_text.proofs.numbers.write_digits.Goals as goal

pub overflow_sub-start-in-loop-left : goal.overflow_sub-start-in-loop-left
overflow_sub-start-in-loop-left c =
    room c.args.n c.loop-left.left c.loop-left.start c.loop-left.text c.ranges.n.fits c.loop-left.invariant.below (omega arith) c.loop-left.invariant.room c.loop-left.invariant.written

pub loop-left-preserved : goal.loop-left-preserved
loop-left-preserved c =
    let some = room c.args.n c.loop-left.left c.loop-left.start c.loop-left.text c.ranges.n.fits c.loop-left.invariant.below (omega arith) c.loop-left.invariant.room c.loop-left.invariant.written in
    record {
      below = omega arith;
      room = omega (arith, length-set c.loop-left.text c.loop-left.start (48 + c.loop-left.left % 10));
      written = written_next c.args.n c.loop-left.left c.loop-left.start c.loop-left.text c.loop-left-test.true (omega arith) some c.loop-left.invariant.room c.loop-left.invariant.written;
    }

pub returns-clause-room : goal.returns-clause-room
returns-clause-room c =
    room c.args.n c.loop-left.left c.loop-left.start c.loop-left.text c.ranges.n.fits c.loop-left.invariant.below (omega arith) c.loop-left.invariant.room c.loop-left.invariant.written

pub returns-clause-written : goal.returns-clause-written
returns-clause-written c = written_all c.args.n c.loop-left.left c.loop-left.start c.loop-left.text c.loop-left-test.false c.loop-left.invariant.room c.loop-left.invariant.written
