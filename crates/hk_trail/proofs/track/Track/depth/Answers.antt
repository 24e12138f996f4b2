use Rattle.std.proofs.Common.{length, reverse, ap, arith}
use Rattle.hk_trail.specs.Levels.{PoolLevels}
use Rattle.hk_trail.proofs.Levelling.{length-stack}
use Rattle.hk_trail.proofs.track.Track.depth.Goals as goal

pub returns : goal.returns
returns g c =
    let stack = ap (λ (v : PoolLevels g.row.T.Denot). v.stack) c.self.view_is in
    omega (arith, length-stack c.self.inside.entries c.self.inside.below.items (reverse c.self.inside.log.items) c.self.inside.cells, ap length stack, c.len.ensures, c.self.inside.below.ok)
