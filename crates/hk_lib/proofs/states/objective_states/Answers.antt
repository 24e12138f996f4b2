use Rattle.hk_lib.proofs.WeightedSums.{objective_down, objective_up}
use Rattle.hk_lib.proofs.states.objective_states.Goals as goal

pub returns-clause-down : goal.returns-clause-down
returns-clause-down c = objective_down

pub returns-clause-up : goal.returns-clause-up
returns-clause-up c = objective_up
