use Rattle.std.proofs.Common.{sym}
use Rattle.hk_table.proofs.ValueSets.{length-members}
use Rattle.hk_table.proofs.value_sets.value_count.Goals as goal

pub returns : goal.returns
returns c = sym (length-members c.args.set c.ranges.set.fits)
