use Rattle.std.proofs.Common.{◌-◌}
use Rattle.hk_search.proofs.Dues.{due_more, due_over, due_spent, finish_none}
use Rattle.hk_search.proofs.tree_laws.what_is_due_goes_on_or_ends.Goals as goal

pub returns-clause-none : goal.returns-clause-none
returns-clause-none c = λ r budget heard. finish_none r (budget - heard.outcome.nodes) heard

pub returns-clause-over : goal.returns-clause-over
returns-clause-over c = due_over

pub returns-clause-spent : goal.returns-clause-spent
returns-clause-spent c = due_spent

pub returns-clause-more : goal.returns-clause-more
returns-clause-more c = due_more
