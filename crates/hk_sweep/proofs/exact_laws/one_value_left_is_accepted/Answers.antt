use Rattle.hk_sweep.proofs.OneValue.{one_value_is_accepted}
use Rattle.hk_sweep.proofs.exact_laws.one_value_left_is_accepted.Goals as goal

pub returns : goal.returns
returns c = one_value_is_accepted
