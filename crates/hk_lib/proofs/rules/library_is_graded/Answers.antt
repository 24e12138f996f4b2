use Rattle.hk_lib.proofs.LibrarySenses.{alldifferent_graded, among_graded, sequence_graded, sum_graded, objective_graded}
use Rattle.hk_lib.proofs.rules.library_is_graded.Goals as goal

pub returns-clause-alldifferent : goal.returns-clause-alldifferent
returns-clause-alldifferent c = alldifferent_graded

pub returns-clause-among : goal.returns-clause-among
returns-clause-among c = among_graded

pub returns-clause-sequence : goal.returns-clause-sequence
returns-clause-sequence c = sequence_graded

pub returns-clause-sum : goal.returns-clause-sum
returns-clause-sum c = sum_graded

pub returns-clause-objective : goal.returns-clause-objective
returns-clause-objective c = objective_graded
