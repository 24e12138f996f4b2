use Rattle.std.proofs.Common.{arith}
use Rattle.hk_arena.proofs.Layouts.{first_num_is}
use Rattle.hk_arena.proofs.layout.Layout.first_num.Goals as goal

pub overflow_mul-result-2 : goal.overflow_mul-result-2
overflow_mul-result-2 c = omega (arith, first_num_is c.self.invariant c.self.view_is c.requires)

pub returns-clause-place : goal.returns-clause-place
returns-clause-place c = (first_num_is c.self.invariant c.self.view_is c.requires).is

pub returns-clause-fits : goal.returns-clause-fits
returns-clause-fits c = (first_num_is c.self.invariant c.self.view_is c.requires).fits
