use Rattle.hk_lib.proofs.WeightedSums.{sum_down, sum_up}
use Rattle.hk_lib.proofs.states.sum_states.Goals as goal

pub returns-clause-down : goal.returns-clause-down
returns-clause-down c = sum_down

pub returns-clause-up : goal.returns-clause-up
returns-clause-up c = sum_up
