use Rattle.hk_exprs.proofs.OperandsTaken.{found_none, found_some}
use Rattle.hk_exprs.proofs.stepping.num_made.Goals as goal

pub returns-in-None : goal.returns-in-None
returns-in-None c = λ names text one some none. found_none names text c.in-None.is none

pub returns-in-Some : goal.returns-in-Some
returns-in-Some c = λ names text one some none. found_some names text one c.in-Some.is c.leaf.ensures some
