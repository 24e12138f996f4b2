use Rattle.hk_lib.proofs.WeightedSums.{objective_by_total}
use Rattle.hk_lib.proofs.laws.objective_accepts.Goals as goal

pub returns : goal.returns
returns c = objective_by_total
