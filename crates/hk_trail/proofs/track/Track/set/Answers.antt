use Rattle.std.proofs.Common.{◌≡◌, get_or, set, refl, sym, ◌∙◌, ap}
use Rattle.std.proofs.lemmas.List.{set-get_or}
use Rattle.hk_trail.specs.Levels.{PoolLevels}
use Rattle.hk_trail.proofs.track.Track.set.Goals as goal

pub returns-then-is-clause-content : goal.returns-then-is-clause-content
returns-then-is-clause-content g c =
    let content = ap (λ (v : PoolLevels g.row.T.Denot). v.content) c.self.view_is in
    let held : c.args.value ≡ get_or c.args.self.now.content c.args.id c.args.value = sym (c.if-is.ensures.0 refl) ∙ (c.get.ensures c.args.value ∙ ap (λ l. get_or l c.args.id c.args.value) content) in
    sym (ap (set c.args.self.now.content c.args.id) held ∙ set-get_or c.args.self.now.content c.args.id c.args.value)
