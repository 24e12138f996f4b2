use Rattle.hk_group.specs.Composed.{HaveLengths}
use Rattle.hk_revised.proofs.composed.push_bounds.Given as goal

abbrev pub invariant-loop-bound : goal.invariant-loop-bound
invariant-loop-bound l = HaveLengths l.bounds l.scopes
