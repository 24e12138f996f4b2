use Rattle.hk_search.proofs.Uncut.{cut_whole, count_cut}
use Rattle.hk_search.proofs.tree_laws.a_budget_leaves_what_is_within_it.Goals as goal

pub returns-clause-whole : goal.returns-clause-whole
returns-clause-whole c = cut_whole

pub returns-clause-count : goal.returns-clause-count
returns-clause-count c = count_cut
