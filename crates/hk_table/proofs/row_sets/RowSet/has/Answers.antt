use Rattle.hk_table.proofs.RowSets.{high_has, low_has}
use Rattle.hk_table.proofs.row_sets.RowSet.has.Goals as goal

pub returns-then-row-lt128 : goal.returns-then-row-lt128
returns-then-row-lt128 c = low_has c.self.inside.high c.self.inside.low c.args.self.now c.args.row c.self.view_is c.if-row-lt128.true

pub returns-else-row-lt128 : goal.returns-else-row-lt128
returns-else-row-lt128 c = high_has c.self.inside.high c.self.inside.low c.args.self.now c.args.row c.self.view_is c.self.invariant.low_fits c.if-row-lt128.false
