use Rattle.std.proofs.Common.{◌≡◌, ◌-◌, suc, get_or, sym, ◌∙◌, ap, subst, arith}
use Rattle.hk_arena.specs.Diagrams.{DiagramLevels}
use Rattle.hk_sweep.proofs.TightSteps.{rises_below, rises_on}
use Rattle.hk_sweep.proofs.ascents.Ascent.rise.Goals as goal
use Rattle.hk_sweep.specs.Views.{DescentView}
use Rattle.hk_sweep.specs.inside.Rising.{IsRisenBelow}

pub step-requires-clause-risen : goal.step-requires-clause-risen
step-requires-clause-risen g c =
    let i = c.loop-layer.invariant in
    let at = c.loop-layer.layer - 1 in
    let is : c.loop-layer.layer ≡ suc at = omega (arith, c.loop-layer-test.true) in
    let fallen = c.index-as_slice-layer.result in
    let read = c.index-as_slice-layer.is ∙ ap (λ layers. get_or layers at fallen) (c.as_slice.ensures.value ∙ ap (λ (d : DescentView). d.layers) c.descent.view_is) in
    subst (λ sets. IsRisenBelow c.args.frame.now sets at fallen c.loop-layer.diagram.table c.loop-layer.self.below) (ap (λ (d : DiagramLevels). d.shape.domains) (sym i.others))
    (rises_below c.args.frame.now c.args.diagram.now.shape.domains c.args.diagram.now.table _ _ c.args.descent.now at c.loop-layer.layer fallen c.requires.room (omega (arith, i.within, is)) is read c.requires.fallen i.risen)

pub loop-layer-preserved : goal.loop-layer-preserved
loop-layer-preserved g c =
    let i = c.loop-layer.invariant in
    let at = c.loop-layer.layer - 1 in
    let is : c.loop-layer.layer ≡ suc at = omega (arith, c.loop-layer-test.true) in
    let fallen = c.index-as_slice-layer.result in
    let read = c.index-as_slice-layer.is ∙ ap (λ layers. get_or layers at fallen) (c.as_slice.ensures.value ∙ ap (λ (d : DescentView). d.layers) c.descent.view_is) in
    let same = ap (λ (d : DiagramLevels). d.shape.domains) i.others in
    let others = c.in_ok-step.ensures.others ∙ ap (λ (d : DiagramLevels). record d { table = c.step.new.diagram.table; numbers = c.step.new.diagram.numbers }) i.others in record {
      within = omega (arith, i.within, is);
      risen = rises_on c.args.frame.now c.args.diagram.now.shape.domains _ c.args.diagram.now.table _ _ _ _ c.args.descent.now at c.loop-layer.layer fallen same c.requires.room (omega (arith, i.within, is)) is read c.requires.fallen i.risen c.in_ok-step.ensures.risen;
      others = others;
      width = c.in_ok-step.ensures.width ∙ i.width;
    }
