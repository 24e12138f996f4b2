use Rattle.std.proofs.Common.{arith}
use Rattle.hk_group.proofs.Counts.{count_in-room}
use Rattle.hk_group.proofs.counting.count_in.Goals as goal

pub overflow_add-count : goal.overflow_add-count
overflow_add-count c =
    let room = count_in-room c.args.set c.args.scope.now c.args.values.now c.loop-variable.variable-index c.loop-variable.count c.bit_of-count.result
    c.loop-variable-test.true c.requires.few c.loop-variable.invariant c.bit_of-count.ensures in
    omega arith
