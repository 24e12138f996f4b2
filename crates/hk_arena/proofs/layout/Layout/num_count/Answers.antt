use Rattle.std.proofs.Common.{arith}
use Rattle.hk_arena.proofs.PoolSizes.{num_count_is}
use Rattle.hk_arena.proofs.layout.Layout.num_count.Goals as goal

pub overflow_mul-result-2 : goal.overflow_mul-result-2
overflow_mul-result-2 c = omega (arith, num_count_is c.self.invariant c.self.view_is c.layers.ensures)

pub returns : goal.returns
returns c = (num_count_is c.self.invariant c.self.view_is c.layers.ensures).is
