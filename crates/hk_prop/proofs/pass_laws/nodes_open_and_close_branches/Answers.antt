use Rattle.hk_prop.proofs.Branching.{branch_opens, fail_closes, leaf_closes, sol_closes}
use Rattle.hk_prop.proofs.pass_laws.nodes_open_and_close_branches.Goals as goal

pub returns-clause-branch : goal.returns-clause-branch
returns-clause-branch c = branch_opens

pub returns-clause-fail : goal.returns-clause-fail
returns-clause-fail c = fail_closes

pub returns-clause-solution : goal.returns-clause-solution
returns-clause-solution c = sol_closes

pub returns-clause-unentered : goal.returns-clause-unentered
returns-clause-unentered c = leaf_closes
