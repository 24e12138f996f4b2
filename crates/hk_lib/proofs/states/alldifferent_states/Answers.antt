use Rattle.std.proofs.Common.{pos}
use Rattle.hk_lib.proofs.Differing.{down_at_end, up_is}
use Rattle.hk_lib.proofs.states.alldifferent_states.Goals as goal

pub returns-clause-down : goal.returns-clause-down
returns-clause-down c = λ n. down_at_end n (pos 0)

pub returns-clause-up : goal.returns-clause-up
returns-clause-up c = λ n. up_is n (pos 0)
