use Rattle.hk_spec.proofs.WithoutBest.{condition_same}
use Rattle.hk_spec.proofs.laws.condition_without_best.Goals as goal

pub returns : goal.returns
returns c = condition_same
