use Rattle.hk_spec.proofs.WithoutBest.{accepts_same}
use Rattle.hk_spec.proofs.laws.acceptance_without_best.Goals as goal

pub returns : goal.returns
returns c = accepts_same
