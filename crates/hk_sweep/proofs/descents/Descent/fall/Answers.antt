use Rattle.std.proofs.Common.{◌≡◌, length, arith, ap, sym, ◌∙◌, subst}
use Rattle.hk_sweep.specs.inside.Fallen.{AreFallen, reached}
use Rattle.hk_sweep.specs.inside.Frames.{PlainFrame}
use Rattle.hk_sweep.proofs.descents.Descent.fall.Goals as goal

pub returns-clause-fallen : goal.returns-clause-fallen
returns-clause-fallen c =
    let count = ap length c.vars-count.ensures.vars ∙ ap (λ (f : PlainFrame). length f.group.vars) c.frame.view_is ∙ sym c.requires.framed.layers in
    let all : c.loop-layer.layer ≡ length c.args.diagram.now.shape.domains = omega (arith, c.loop-layer-test.false, c.loop-layer.auto.layer-end, count) in
    subst (λ n. AreFallen c.args.frame.now c.args.diagram.now.shape.domains c.args.diagram.now.table (reached n c.loop-layer.self)) all c.loop-layer.invariant.fallen
