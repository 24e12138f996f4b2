use Rattle.std.proofs.Common.{[], refl, ◌∙◌}
use Rattle.hk_base.proofs.HostLaws.{Wrote-none, Wrote-piece}
use Rattle.hk_base.proofs.writing.write_all.Goals as goal

pub pieces-init : goal.pieces-init
pieces-init g c = ([], refl, Wrote-none c.args.slot (g.H.Host.view c.args.host.now), refl)

pub pieces-preserved : goal.pieces-preserved
pieces-preserved g c =
    let longer = Wrote-piece _ _ _ _ _ _ _ _ _ c.pieces.invariant.1 c.pieces.invariant.2 c.split_at.ensures.back c.in_ok-count.ensures.writes.wrote in
    (longer.0, longer.1, longer.2, c.in_ok-count.ensures.writes.quiet ∙ c.pieces.invariant.3)
