use Rattle.hk_search.proofs.RealRules.{last_is_answer}
use Rattle.hk_search.proofs.tree_laws.the_last_solution_is_the_answer.Goals as goal

pub returns : goal.returns
returns c = λ p width tree valid some tight. last_is_answer p valid width some tree tight
