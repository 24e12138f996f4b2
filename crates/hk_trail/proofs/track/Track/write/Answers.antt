use Rattle.std.proofs.Common.{sym, ◌∙◌, ap}
use Rattle.hk_trail.specs.Levels.{PoolLevels}
use Rattle.hk_trail.proofs.Levelling.{saved_contents-set}
use Rattle.hk_trail.specs.Places.{on_highest, with_place}
use Rattle.hk_trail.proofs.track.Track.write.Goals as goal

pub returns-clause-stack : goal.returns-clause-stack
returns-clause-stack g c =
    let stack = ap (λ (v : PoolLevels g.row.T.Denot). v.stack) c.self.view_is in
    let written = ap (λ (v : PoolLevels g.row.T.Denot). v.written) c.self.view_is in
    rw c.set.ensures.cells (saved_contents-set _ _ _ _ c.args.id c.args.value (written ∙ c.requires.noted ∙ ap (on_highest (with_place c.args.id)) (sym written))) ∙ stack
