use Rattle.hk_group.proofs.laws.valid_groups_have_scopes.Goals as goal
use Rattle.hk_group.proofs.GroupScopes.{valid_few, valid_scopes, valid_values}

pub returns-clause-scope : goal.returns-clause-scope
returns-clause-scope c = valid_scopes

pub returns-clause-few : goal.returns-clause-few
returns-clause-few c = valid_few

pub returns-clause-values : goal.returns-clause-values
returns-clause-values c = valid_values
