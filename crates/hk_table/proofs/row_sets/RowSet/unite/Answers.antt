use Rattle.std.proofs.lemmas.Nat.{or_lt}
use Rattle.hk_table.proofs.RowSets.{both_have}
use Rattle.hk_table.proofs.row_sets.RowSet.unite.Goals as goal

pub invariant_of-self : goal.invariant_of-self
invariant_of-self c = record {
  low_fits = or_lt 128 c.self.inside.low c.other.inside.low c.self.invariant.low_fits c.other.invariant.low_fits;
  high_fits = or_lt 128 c.self.inside.high c.other.inside.high c.self.invariant.high_fits c.other.invariant.high_fits;
}

pub returns : goal.returns
returns c = both_have c.self.inside.high c.self.inside.low c.args.self.now c.other.inside.high c.other.inside.low c.args.other.now c.self.view_is c.other.view_is c.self.invariant.low_fits c.other.invariant.low_fits
