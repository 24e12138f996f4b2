use Rattle.hk_prop.proofs.Fuel.{due_last, due_more}
use Rattle.hk_prop.proofs.pass_laws.passes_go_on_or_end.Goals as goal

pub returns-clause-last : goal.returns-clause-last
returns-clause-last c = due_last

pub returns-clause-more : goal.returns-clause-more
returns-clause-more c = due_more
