use Rattle.hk_group.proofs.laws.revisable_parts_make_a_revisable_group.Goals as goal
use Rattle.hk_group.proofs.PartsRevised.{revisable_group}

pub returns : goal.returns
returns c = revisable_group
