use Rattle.hk_table.proofs.ValueSets.{least_split, some_bits}
use Rattle.hk_table.proofs.value_sets.split_least.Goals as goal

pub overflow_sub-result : goal.overflow_sub-result
overflow_sub-result c = some_bits c.args.set c.requires

pub returns-clause-values : goal.returns-clause-values
returns-clause-values c = (least_split c.args.set (some_bits c.args.set c.requires) c.ranges.set.fits).values

pub returns-clause-within : goal.returns-clause-within
returns-clause-within c = (least_split c.args.set (some_bits c.args.set c.requires) c.ranges.set.fits).within

pub returns-clause-gone : goal.returns-clause-gone
returns-clause-gone c = (least_split c.args.set (some_bits c.args.set c.requires) c.ranges.set.fits).gone
