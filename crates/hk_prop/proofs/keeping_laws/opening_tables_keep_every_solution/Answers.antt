use Rattle.hk_prop.proofs.KeptSolutions.{opening_keeps_solutions}
use Rattle.hk_prop.proofs.keeping_laws.opening_tables_keep_every_solution.Goals as goal

pub returns : goal.returns
returns c = λ p best valid. opening_keeps_solutions p valid best
