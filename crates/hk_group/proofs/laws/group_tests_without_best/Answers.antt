use Rattle.hk_group.proofs.laws.group_tests_without_best.Goals as goal
use Rattle.hk_group.proofs.PartsWithoutBest.{group_passes_same}

pub returns : goal.returns
returns c = λ g best other layer value down up without. group_passes_same best other g layer value down up without
