use Rattle.hk_layers.proofs.Unions.{united_at}
use Rattle.hk_layers.proofs.uniting.unite_lead.Goals as goal

pub returns-then-c-froms-clause-united : goal.returns-then-c-froms-clause-united
returns-then-c-froms-clause-united c = λ other lt row. united_at c.args.froms.now c.in-To.c other row _ c.args.lead c.args.set.now c.unite.new.self c.in-To.is c.if-c-froms.true c.unite.ensures
