use Rattle.hk_lib.proofs.LibraryBounds.{alldifferent_fits, among_fits, gcc_fits, sequence_fits, sum_fits, objective_fits}
use Rattle.hk_lib.proofs.rules.library_arguments_fit.Goals as goal

pub returns-clause-alldifferent : goal.returns-clause-alldifferent
returns-clause-alldifferent c = alldifferent_fits

pub returns-clause-among : goal.returns-clause-among
returns-clause-among c = among_fits

pub returns-clause-gcc : goal.returns-clause-gcc
returns-clause-gcc c = gcc_fits

pub returns-clause-sequence : goal.returns-clause-sequence
returns-clause-sequence c = sequence_fits

pub returns-clause-sum : goal.returns-clause-sum
returns-clause-sum c = sum_fits

pub returns-clause-objective : goal.returns-clause-objective
returns-clause-objective c = objective_fits
