use Rattle.hk_lib.proofs.LibraryRules.{alldifferent_rules, among_rules, sum_rules, objective_rules}
use Rattle.hk_lib.proofs.WindowRules.{sequence_rules}
use Rattle.hk_lib.proofs.rules.library_keeps_the_rules.Goals as goal

pub returns-clause-alldifferent : goal.returns-clause-alldifferent
returns-clause-alldifferent c = alldifferent_rules

pub returns-clause-among : goal.returns-clause-among
returns-clause-among c = among_rules

pub returns-clause-sequence : goal.returns-clause-sequence
returns-clause-sequence c = sequence_rules

pub returns-clause-sum : goal.returns-clause-sum
returns-clause-sum c = sum_rules

pub returns-clause-objective : goal.returns-clause-objective
returns-clause-objective c = objective_rules
