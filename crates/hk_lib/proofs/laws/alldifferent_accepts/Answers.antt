use Rattle.hk_lib.proofs.Differing.{differing_accepted}
use Rattle.hk_lib.proofs.laws.alldifferent_accepts.Goals as goal

pub returns : goal.returns
returns c = differing_accepted
