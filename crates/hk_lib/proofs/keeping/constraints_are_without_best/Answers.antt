use Rattle.hk_lib.proofs.LibraryWithoutBest.{alldifferent_without, among_without, sequence_without, sum_without}
use Rattle.hk_lib.proofs.RowRules.{rows_without}
use Rattle.hk_lib.proofs.keeping.constraints_are_without_best.Goals as goal

pub returns-clause-alldifferent : goal.returns-clause-alldifferent
returns-clause-alldifferent c = alldifferent_without

pub returns-clause-among : goal.returns-clause-among
returns-clause-among c = among_without

pub returns-clause-sequence : goal.returns-clause-sequence
returns-clause-sequence c = sequence_without

pub returns-clause-gcc : goal.returns-clause-gcc
returns-clause-gcc c = rows_without

pub returns-clause-sum : goal.returns-clause-sum
returns-clause-sum c = sum_without
