use Rattle.hk_group.specs.Composed.{HaveLengths}
use Rattle.hk_revised.proofs.composed.push_parts.Given as goal

abbrev pub invariant-loop-part : goal.invariant-loop-part
invariant-loop-part l = HaveLengths l.bounds l.scopes
