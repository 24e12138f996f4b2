use Rattle.hk_exprs.proofs.OperandsTaken.{values_flawed, values_well}
use Rattle.hk_exprs.proofs.stepping.values_made.Goals as goal

pub returns-in-Err : goal.returns-in-Err
returns-in-Err c = λ names numbers is. values_flawed names numbers c.in-Err.is is

pub returns-in-Ok : goal.returns-in-Ok
returns-in-Ok c = λ names numbers is. values_well names numbers c.in-Ok.is c.leaf.ensures is
