use Rattle.hk_prop.proofs.ReadBack.{node_read, pass_read}
use Rattle.hk_prop.proofs.pass_laws.passes_are_read_as_their_tables.Goals as goal

pub returns-clause-one : goal.returns-clause-one
returns-clause-one c = pass_read

pub returns-clause-node : goal.returns-clause-node
returns-clause-node c = node_read
