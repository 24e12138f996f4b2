use Rattle.hk_prop.proofs.Prunings.{pruned_has, pruned_only}
use Rattle.hk_prop.proofs.pass_laws.a_pass_leaves_what_all_tables_allow.Goals as goal
use Rattle.hk_prop.specs.Supports.{all_allow}

pub returns-clause-has : goal.returns-clause-has
returns-clause-has c = λ sets groups tables domains variable value within. pruned_has (all_allow sets groups tables) domains variable value within

pub returns-clause-only : goal.returns-clause-only
returns-clause-only c = λ sets groups tables domains new long small each. pruned_only (all_allow sets groups tables) domains new long small each
