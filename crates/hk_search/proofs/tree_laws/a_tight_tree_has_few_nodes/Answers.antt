use Rattle.hk_search.proofs.NodeCounts.{root_count_most}
use Rattle.hk_search.proofs.tree_laws.a_tight_tree_has_few_nodes.Goals as goal

pub returns : goal.returns
returns c = λ p width tree valid tight. root_count_most p valid width tree tight
