use Rattle.hk_prop.proofs.FixedNodes.{node_solves}
use Rattle.hk_prop.proofs.keeping_laws.one_value_each_is_a_solution.Goals as goal

pub returns : goal.returns
returns c = λ p width best at values valid some stands lie only free. node_solves p valid width some best at values stands lie only free
