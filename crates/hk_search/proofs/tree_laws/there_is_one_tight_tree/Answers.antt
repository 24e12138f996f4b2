use Rattle.std.proofs.Common.{suc, arith}
use Rattle.hk_prop.specs.Contents.{values_left}
use Rattle.hk_prop.proofs.Fuel.{node_fewer}
use Rattle.hk_search.specs.Rules.{rules_of}
use Rattle.hk_search.proofs.OneTree.{one_tight_tree, some_tight_tree}
use Rattle.hk_search.proofs.tree_laws.there_is_one_tight_tree.Goals as goal

pub returns-clause-some : goal.returns-clause-some
returns-clause-some c = λ p width best at. some_tight_tree (rules_of p width) (record { narrows = λ b c. node_fewer p width b c }) (suc (values_left at.domains)) best at (omega arith)

pub returns-clause-one : goal.returns-clause-one
returns-clause-one c = λ p width best at tree other. one_tight_tree (rules_of p width) best at tree other
