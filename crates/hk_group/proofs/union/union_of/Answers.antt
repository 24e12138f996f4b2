use Rattle.hk_group.proofs.Unions.{joined_through}
use Rattle.hk_group.proofs.union.union_of.Goals as goal

pub returns-in-Ok-clause-union : goal.returns-in-Ok-clause-union
returns-in-Ok-clause-union c = λ variable. joined_through c.args.parts.now c.in-Ok.variables c.sorted_once.result variable c.in-Ok.ensures (c.sorted_once.ensures.same variable)
