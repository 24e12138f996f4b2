use Rattle.hk_search.specs.Rules.{rules_of}
use Rattle.hk_search.proofs.Cutting.{finish_tree}
use Rattle.hk_search.proofs.tree_laws.a_search_tells_the_tree_that_its_budget_leaves.Goals as goal

pub returns : goal.returns
returns c = λ p width. finish_tree (rules_of p width)
