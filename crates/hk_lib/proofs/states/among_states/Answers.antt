use Rattle.hk_lib.proofs.Counts.{among_down, among_up}
use Rattle.hk_lib.proofs.states.among_states.Goals as goal

pub returns-clause-down : goal.returns-clause-down
returns-clause-down c = among_down

pub returns-clause-up : goal.returns-clause-up
returns-clause-up c = among_up
