use Rattle.std.proofs.Common.{arith, get_or}
use Rattle.hk_prop.proofs.Counts.{members_few, values_step}
use Rattle.hk_prop.proofs.counting.count_values.Goals as goal

pub overflow_add-count : goal.overflow_add-count
overflow_add-count c =
    let few = members_few (get_or c.args.sets.now c.sets.set-index 0) in
    omega (arith, few, c.value_count-count.ensures, c.sets.invariant.few, c.sets-test.true, c.sets.auto.set-index-end, c.requires)

pub sets-preserved : goal.sets-preserved
sets-preserved c =
    let few = members_few (get_or c.args.sets.now c.sets.set-index 0) in
    let step = values_step c.args.sets.now c.sets.set-index (omega (arith, c.sets-test.true, c.sets.auto.set-index-end)) in record {
      whole = omega (arith, step, c.value_count-count.ensures, c.sets.invariant.whole);
      few = omega (arith, few, c.value_count-count.ensures, c.sets.invariant.few);
    }
