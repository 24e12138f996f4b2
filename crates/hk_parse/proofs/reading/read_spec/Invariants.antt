use Rattle.std.proofs.Common.{length}
use Rattle.hk_parse.specs.inside.Stages.{stage_of}
use Rattle.hk_parse.proofs.ReadSpecs.{Reached}
use Rattle.hk_parse.proofs.reading.read_spec.Given as goal

abbrev pub invariant-lines : goal.invariant-lines
invariant-lines l = Reached l.bytes (stage_of l.reading) l.rest l.number

abbrev pub decreases-lines : goal.decreases-lines
decreases-lines l = length l.rest
