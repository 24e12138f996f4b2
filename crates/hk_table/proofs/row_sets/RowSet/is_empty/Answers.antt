use Rattle.hk_table.proofs.RowSets.{high_empty, low_empty}
use Rattle.hk_table.proofs.row_sets.RowSet.is_empty.Goals as goal

pub returns-then-self-eq0 : goal.returns-then-self-eq0
returns-then-self-eq0 c = high_empty c.self.inside.high c.self.inside.low c.args.self.now c.self.view_is c.self.invariant.high_fits c.if-self-eq0.true

pub returns-else-self-eq0 : goal.returns-else-self-eq0
returns-else-self-eq0 c = low_empty c.self.inside.high c.self.inside.low c.args.self.now c.self.view_is c.self.invariant.high_fits c.self.invariant.low_fits c.if-self-eq0.false
