use Rattle.hk_lib.proofs.WeightedSums.{sum_by_total}
use Rattle.hk_lib.proofs.laws.sum_accepts.Goals as goal

pub returns : goal.returns
returns c = sum_by_total
