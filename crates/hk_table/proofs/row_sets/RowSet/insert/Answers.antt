use Rattle.std.proofs.Common.{◌-◌, arith}
use Rattle.hk_table.proofs.RowSets.{bit_fits, high_more, low_more}
use Rattle.hk_table.proofs.row_sets.RowSet.insert.Goals as goal

pub invariant_of-self : goal.invariant_of-self
invariant_of-self c = record { low_fits = bit_fits c.self.inside.low c.args.row c.self.invariant.low_fits c.if-row-lt128.true; high_fits = c.self.invariant.high_fits }

pub invariant_of-self-else-row-lt128 : goal.invariant_of-self-else-row-lt128
invariant_of-self-else-row-lt128 c = record {
  low_fits = c.self.invariant.low_fits;
  high_fits = let above = c.if-row-lt128.false in let below = c.requires in bit_fits c.self.inside.high (c.args.row - 128) c.self.invariant.high_fits (omega arith);
}

pub returns-then-row-lt128 : goal.returns-then-row-lt128
returns-then-row-lt128 c = low_more c.self.inside.high c.self.inside.low c.args.self.now c.args.row c.self.view_is c.self.invariant.low_fits c.if-row-lt128.true

pub returns-else-row-lt128 : goal.returns-else-row-lt128
returns-else-row-lt128 c = high_more c.self.inside.high c.self.inside.low c.args.self.now c.args.row c.self.view_is c.self.invariant.low_fits c.if-row-lt128.false c.requires
