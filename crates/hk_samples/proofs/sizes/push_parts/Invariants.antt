use Rattle.hk_group.specs.Composed.{HaveLengths}
use Rattle.hk_samples.proofs.sizes.push_parts.Given as goal

abbrev pub invariant-loop-sample : goal.invariant-loop-sample
invariant-loop-sample l = HaveLengths l.bounds l.scopes
