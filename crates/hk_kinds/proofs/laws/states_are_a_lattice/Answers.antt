use Rattle.hk_kinds.proofs.StateLaws.{state_lattice}
use Rattle.hk_kinds.proofs.laws.states_are_a_lattice.Goals as goal

pub returns : goal.returns
returns c = state_lattice
