use Rattle.hk_lib.proofs.RowRules.{rows_fit, rows_graded}
use Rattle.hk_lib.proofs.keeping.rows_keep_the_rules.Goals as goal

pub returns-clause-fits : goal.returns-clause-fits
returns-clause-fits c = rows_fit

pub returns-clause-graded : goal.returns-clause-graded
returns-clause-graded c = rows_graded
