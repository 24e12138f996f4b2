use Rattle.hk_prop.proofs.KeptSolutions.{keeps_fewer}
use Rattle.hk_prop.proofs.keeping_laws.fewer_candidates_are_kept.Goals as goal

pub returns : goal.returns
returns c = keeps_fewer
