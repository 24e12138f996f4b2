use Rattle.hk_group.proofs.WidthSizes.{AreAdded}
use Rattle.hk_group.proofs.widths.all_properties.Given as goal

abbrev pub invariant-loop-group : goal.invariant-loop-group
invariant-loop-group l = AreAdded l.sum l.group-index l.groups
