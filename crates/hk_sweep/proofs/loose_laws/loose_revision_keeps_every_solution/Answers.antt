use Rattle.hk_sweep.proofs.GroupTransitions.{loose_revision_keeps}
use Rattle.hk_sweep.proofs.loose_laws.loose_revision_keeps_every_solution.Goals as goal

pub returns : goal.returns
returns c = loose_revision_keeps
