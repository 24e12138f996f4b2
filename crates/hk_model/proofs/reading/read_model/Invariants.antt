use Rattle.std.proofs.Common.{length}
use Rattle.hk_model.proofs.Reaching.{Reached}
use Rattle.hk_model.proofs.reading.read_model.Given as goal

abbrev pub invariant-lines : goal.invariant-lines
invariant-lines l = Reached l.bytes l.declared l.rest l.number

abbrev pub decreases-lines : goal.decreases-lines
decreases-lines l = length l.rest
