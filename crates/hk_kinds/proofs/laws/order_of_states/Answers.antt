use Rattle.hk_kinds.proofs.StateOrder.{state_total, state_apart}
use Rattle.hk_kinds.proofs.laws.order_of_states.Goals as goal

pub returns-clause-total : goal.returns-clause-total
returns-clause-total c = state_total

pub returns-clause-tells_apart : goal.returns-clause-tells_apart
returns-clause-tells_apart c = state_apart
