use Rattle.hk_group.proofs.PartsRevised.{monotone_group}
use Rattle.hk_group.proofs.laws.monotone_parts_make_a_monotone_group.Goals as goal

pub returns : goal.returns
returns c = monotone_group
