use Rattle.std.proofs.Common.{sym, ◌∙◌, arith}
use Rattle.hk_group.proofs.SetSizes.{members-few, members-ones}
use Rattle.hk_group.proofs.widths.value_count.Goals as goal

pub returns-clause-count : goal.returns-clause-count
returns-clause-count c = c.from.ensures ∙ sym (members-ones c.args.set c.ranges.set.fits)

pub returns-clause-few : goal.returns-clause-few
returns-clause-few c = omega (arith, c.from.ensures, members-ones c.args.set c.ranges.set.fits, members-few c.args.set)
