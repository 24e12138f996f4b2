use Rattle.std.proofs.Common.{length, map, ◌∙◌, ap, arith}
use Rattle.hk_kinds.proofs.DistinctLaws.{length_distinct}
use Rattle.hk_layers.proofs.Places.{leads_same}
use Rattle.hk_layers.specs.Spots.{PlainSpot}
use Rattle.hk_layers.specs.Views.{MarksView}
use Rattle.hk_layers.specs.inside.Uniting.{lead_of_fate}
use Rattle.hk_layers.proofs.uniting.lead_all.Goals as goal

pub lead_fates-requires-clause-few : goal.lead_fates-requires-clause-few
lead_fates-requires-clause-few c = omega (arith, c.len.ensures, ap length c.requires.steps, length_distinct c.args.marks.now.candidates, c.requires.few)

pub returns : goal.returns
returns c =
    let marks = c.args.marks.now in
    let steps = c.args.steps.now.rows in
    let places = c.args.places.now in record {
      leads =
          c.in_ok-lead_fates.ensures.leads
          ∙ (ap (map (lead_of_fate c.spot.inside.width c.len.result places)) (c.as_slice.ensures.value ∙ ap (λ (m : MarksView). m.fates) c.marks.view_is)
          ∙ (ap (λ n. map (lead_of_fate c.spot.inside.width n places) marks.fates) c.len.ensures
          ∙ (ap (λ (s : PlainSpot). map (lead_of_fate s.width (length steps) places) marks.fates) c.spot.view_is
          ∙ leads_same c.args.spot.now.width marks.candidates steps places marks.fates marks.sets c.requires.placed c.requires.steps c.requires.there c.requires.long)));
    }
