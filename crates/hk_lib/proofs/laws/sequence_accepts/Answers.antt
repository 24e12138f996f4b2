use Rattle.hk_lib.proofs.Windows.{windows_accepted}
use Rattle.hk_lib.proofs.laws.sequence_accepts.Goals as goal

pub returns : goal.returns
returns c = windows_accepted
