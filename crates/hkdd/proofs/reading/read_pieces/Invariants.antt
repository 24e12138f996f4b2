use Rattle.std.proofs.Common.{◌+◌, ◌-◌, length}
use Rattle.hkdd.specs.Limits.{most_bytes}
use Rattle.hkdd.proofs.Pieces.{Reached}
use Rattle.hkdd.proofs.reading.read_pieces.Given as goal

abbrev pub invariant-pieces : goal.invariant-pieces
invariant-pieces g l = Reached (g.H.Host.view l.fn.host) (g.H.Host.view l.host) l.text

abbrev pub decreases-pieces : goal.decreases-pieces
decreases-pieces g l = (most_bytes + 1) - length l.text
