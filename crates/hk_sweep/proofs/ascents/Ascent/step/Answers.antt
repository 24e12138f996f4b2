use Rattle.std.proofs.Common.{suc, length, sym, ◌∙◌, ap, subst}
use Rattle.std.proofs.lemmas.List.{length-map}
use Rattle.hk_arena.specs.Diagrams.{values_of}
use Rattle.hk_group.specs.Groups.{group_up_shape}
use Rattle.hk_layers.specs.Flat.{AreShapedUps}
use Rattle.hk_layers.specs.Spots.{PlainSpot}
use Rattle.hk_layers.specs.Views.{UpsView}
use Rattle.hk_sweep.proofs.TightSteps.{rows_finished, step_rises, length-fits, length-told_ups, length-told_entries}
use Rattle.hk_sweep.proofs.ascents.Ascent.step.Goals as goal
use Rattle.hk_sweep.specs.inside.Fallen.{FallsTo}
use Rattle.hk_sweep.specs.Views.{FallenView, AscentView}
use Rattle.hk_sweep.specs.inside.Rising.{IsRisen}
use Rattle.hk_sweep.specs.inside.Written.{IsLayerWritten, rows_made}
use Rattle.hk_text.specs.Sets.{members}

pub write_layer-requires-clause-ups : goal.write_layer-requires-clause-ups
write_layer-requires-clause-ups g c =
    let climbs = c.requires.risen in
    let frame = c.args.frame.now in
    let sets = c.args.diagram.now.shape.domains in
    let falls = subst (λ (v : FallenView). FallsTo frame sets climbs.old c.args.layer v climbs.next) (sym c.fallen.view_is) climbs.falls in
    let risen = subst (λ (v : AscentView). IsRisen frame sets climbs.old (suc c.args.layer) climbs.next c.args.diagram.now.table v.below) (sym c.self.view_is) climbs.risen in
    length-told_ups frame sets climbs.old c.args.layer _ _ _
    (rows_finished frame sets climbs.old c.args.layer _ _ _ climbs.next _ _ _ _ c.spot-spot.ensures c.as_slice.ensures.value falls risen c.in_ok-up_layer.ensures.up)

pub write_layer-requires-clause-entries : goal.write_layer-requires-clause-entries
write_layer-requires-clause-entries g c =
    let climbs = c.requires.risen in
    let frame = c.args.frame.now in
    let sets = c.args.diagram.now.shape.domains in
    let falls = subst (λ (v : FallenView). FallsTo frame sets climbs.old c.args.layer v climbs.next) (sym c.fallen.view_is) climbs.falls in
    let risen = subst (λ (v : AscentView). IsRisen frame sets climbs.old (suc c.args.layer) climbs.next c.args.diagram.now.table v.below) (sym c.self.view_is) climbs.risen in
    ap length c.as_slice-2.ensures.value
    ∙ length-told_entries frame sets climbs.old c.args.layer _ _ _ c.requires.layer
    (rows_finished frame sets climbs.old c.args.layer _ _ _ climbs.next _ _ _ _ c.spot-spot.ensures c.as_slice.ensures.value falls risen c.in_ok-up_layer.ensures.up)

pub returns-clause-risen : goal.returns-clause-risen
returns-clause-risen g c = λ old next fell below.
    let frame = c.args.frame.now in
    let sets = c.args.diagram.now.shape.domains in
    let at = c.args.layer in
    let table = c.args.diagram.now.table in
    let new = c.write_layer.new.diagram.table in
    let fallen = subst (λ (v : FallenView). FallsTo frame sets old at v next) (sym c.fallen.view_is) fell in
    let risen = subst (λ (v : AscentView). IsRisen frame sets old (suc at) next table v.below) (sym c.self.view_is) below in
    let rows = rows_finished frame sets old at _ _ _ next _ _ _ _ c.spot-spot.ensures c.as_slice.ensures.value fallen risen c.in_ok-up_layer.ensures.up in
    let halves = c.fallen.inside.front.halves in
    let ups = c.up_layer.new.ups.ups in
    let count = length (values_of c.args.diagram.now.shape at) in
    let written = subst (λ entries. IsLayerWritten at (rows_made count halves ups entries) table new) c.as_slice-2.ensures.value c.in_ok-write_layer.ensures.ok in
    let long = length-fits _ _ _ table c.fits.ensures.fits ∙ ap suc (length-map sets members) in
    let shapes = subst (λ (spot : PlainSpot). AreShapedUps (group_up_shape spot.group) ups) c.spot-spot.ensures c.in_ok-up_layer.ensures.shapes in
    let rises = step_rises frame sets old at _ next table new _ _ _ c.requires.layer c.requires.framed.layers long fallen risen rows written shapes in
    subst (λ (v : UpsView). IsRisen frame sets old at c.args.fallen.now.halves new v.ups) (sym c.swap.ensures.x_after)
    (subst (λ (v : FallenView). IsRisen frame sets old at v.halves new ups) c.fallen.view_is rises)
