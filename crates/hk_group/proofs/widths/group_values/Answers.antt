use Rattle.std.proofs.Common.{arith}
use Rattle.hk_group.proofs.WidthSizes.{some_values-few}
use Rattle.hk_group.proofs.widths.group_values.Goals as goal

pub overflow_add-sum : goal.overflow_add-sum
overflow_add-sum c = omega (
  arith,
  c.loop-variable.invariant,
  some_values-few c.args.domains.now c.args.group.now c.loop-variable.variable-index c.requires.scope c.requires.few,
  c.value_count-sum.ensures.few,
)

pub returns-clause-room : goal.returns-clause-room
returns-clause-room c = omega (
  arith,
  c.loop-variable.invariant,
  some_values-few c.args.domains.now c.args.group.now c.loop-variable.variable-index c.requires.scope c.requires.few,
)
