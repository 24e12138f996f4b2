use Rattle.hk_group.proofs.laws.group_acceptance_without_best.Goals as goal
use Rattle.hk_group.proofs.PartsWithoutBest.{group_accepts_same}

pub returns : goal.returns
returns c = group_accepts_same
