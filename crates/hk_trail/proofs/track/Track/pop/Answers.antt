use Rattle.std.proofs.Common.{arith}
use Rattle.std.proofs.lemmas.List.{length-reverse}
use Rattle.hk_trail.proofs.Marking.{entries-le}
use Rattle.hk_trail.proofs.track.Track.pop.Goals as goal

pub replay-requires-clause-counted : goal.replay-requires-clause-counted
replay-requires-clause-counted g c =
    omega (arith, entries-le _ _ _ _ c.self.invariant.marks, length-reverse c.self.inside.log.items)
