use Rattle.hk_sweep.proofs.TightGroups.{group_is_loose}
use Rattle.hk_sweep.proofs.tight_laws.tight_revision_is_loose.Goals as goal

pub returns : goal.returns
returns c = group_is_loose
