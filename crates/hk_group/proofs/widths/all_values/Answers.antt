use Rattle.std.proofs.Common.{arith}
use Rattle.hk_group.proofs.WidthSizes.{all_values-few}
use Rattle.hk_group.proofs.widths.all_values.Goals as goal

pub overflow_add-sum : goal.overflow_add-sum
overflow_add-sum c = omega (
  arith,
  c.loop-group.invariant,
  all_values-few c.args.domains.now c.args.groups.now c.loop-group.group-index c.requires.scopes c.requires.few c.requires.few_groups,
  c.group_values-sum.ensures.room,
)

pub returns-clause-room : goal.returns-clause-room
returns-clause-room c = omega (
  arith,
  c.loop-group.invariant,
  all_values-few c.args.domains.now c.args.groups.now c.loop-group.group-index c.requires.scopes c.requires.few c.requires.few_groups,
)
