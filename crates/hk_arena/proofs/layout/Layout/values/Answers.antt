use Rattle.std.proofs.Common.{arith}
use Rattle.hk_arena.proofs.PoolSizes.{values_few}
use Rattle.hk_arena.proofs.layout.Layout.values.Goals as goal

pub overflow_cast-result : goal.overflow_cast-result
overflow_cast-result c = omega (arith, values_few c.args.self.now.shape c.args.layer)
