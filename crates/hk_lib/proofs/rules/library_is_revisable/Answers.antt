use Rattle.hk_spec.specs.Library.{alldifferent_bound, among_bound, gcc_bound, sequence_bound, sum_bound, objective_bound}
use Rattle.hk_lib.proofs.LibraryBounds.{alldifferent_fits, among_fits, gcc_fits, sequence_fits, sum_fits, objective_fits}
use Rattle.hk_lib.proofs.LibrarySenses.{alldifferent_graded, among_graded, sequence_graded, sum_graded, objective_graded}
use Rattle.hk_lib.proofs.rules.library_is_revisable.Goals as goal

pub returns-clause-alldifferent : goal.returns-clause-alldifferent
returns-clause-alldifferent c = λ n few. c.graded_is_revisable.ensures (alldifferent_bound n) (alldifferent_fits n few) alldifferent_graded

pub returns-clause-among : goal.returns-clause-among
returns-clause-among c = λ n set least most few small l m. c.graded_is_revisable.ensures (among_bound n set least most) (among_fits n set least most few small l m) among_graded

pub returns-clause-gcc : goal.returns-clause-gcc
returns-clause-gcc c = λ n row few small l m. c.graded_is_revisable.ensures (gcc_bound n row) (gcc_fits n row few small l m) among_graded

pub returns-clause-sequence : goal.returns-clause-sequence
returns-clause-sequence c = λ n window set least most few some short small l m. c.graded_is_revisable.ensures (sequence_bound n window set least most) (sequence_fits n window set least most few some short small l m) (sequence_graded window)

pub returns-clause-sum : goal.returns-clause-sum
returns-clause-sum c = λ coefs least most few small l m. c.graded_is_revisable.ensures (sum_bound coefs least most) (sum_fits coefs least most few small l m) sum_graded

pub returns-clause-objective : goal.returns-clause-objective
returns-clause-objective c = λ coefs few small. c.graded_is_revisable.ensures (objective_bound coefs) (objective_fits coefs few small) objective_graded
