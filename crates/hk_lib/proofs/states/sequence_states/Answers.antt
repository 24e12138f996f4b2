use Rattle.hk_lib.proofs.Windows.{windows_down, windows_length, windows_up}
use Rattle.hk_lib.proofs.states.sequence_states.Goals as goal

pub returns-clause-down : goal.returns-clause-down
returns-clause-down c = windows_down

pub returns-clause-length : goal.returns-clause-length
returns-clause-length c = windows_length

pub returns-clause-up : goal.returns-clause-up
returns-clause-up c = windows_up
