use Rattle.std.proofs.Common.{length, reverse, ap, arith}
use Rattle.hk_trail.specs.Levels.{PoolLevels}
use Rattle.hk_trail.proofs.Levelling.{length-stack}
use Rattle.hk_trail.proofs.Marking.{IsKept-push}
use Rattle.hk_trail.proofs.track.Track.push.Goals as goal

pub invariant_of-self : goal.invariant_of-self
invariant_of-self g c =
    let stack = ap (λ (v : PoolLevels g.row.T.Denot). v.stack) c.self.view_is in
    rw c.push_reserved.ensures.items (IsKept-push _ _ _ _ _ c.self.invariant (omega (arith, length-stack c.self.inside.entries c.self.inside.below.items (reverse c.self.inside.log.items) c.self.inside.cells, ap length stack, c.requires.depth)))
