use Rattle.std.proofs.Common.{ap, ◌∙◌}
use Rattle.hk_kinds.specs.Distinct.{distinct_states}
use Rattle.hk_layers.specs.Views.{MarksView}
use Rattle.hk_layers.proofs.NextRows.{found_ascend, found_few, found_leads, found_rows, found_shapes, halves_shaped, rows_within}
use Rattle.hk_layers.proofs.leading.lead_on.Goals as goal

pub fill-requires-clause-ascend : goal.fill-requires-clause-ascend
fill-requires-clause-ascend c = found_ascend _ _ _ c.requires.marked _ (c.in_ok-distinct.ensures.steps ∙ ap (λ (m : MarksView). distinct_states m.candidates) c.marks.view_is)

pub fill-requires-clause-shapes : goal.fill-requires-clause-shapes
fill-requires-clause-shapes c = found_shapes _ _ _ c.requires.marked _ (c.in_ok-distinct.ensures.steps ∙ ap (λ (m : MarksView). distinct_states m.candidates) c.marks.view_is)

pub fill-requires-clause-few : goal.fill-requires-clause-few
fill-requires-clause-few c = found_few _ _ _ c.requires.marked _ (c.in_ok-distinct.ensures.steps ∙ ap (λ (m : MarksView). distinct_states m.candidates) c.marks.view_is)

pub returns-in-Ok-clause-leads : goal.returns-in-Ok-clause-leads
returns-in-Ok-clause-leads c = found_leads _ _ _ c.requires.marked _ _ (c.in_ok-distinct.ensures.steps ∙ ap (λ (m : MarksView). distinct_states m.candidates) c.marks.view_is) c.in_ok-lead_all.ensures.leads

pub returns-in-Ok-clause-next : goal.returns-in-Ok-clause-next
returns-in-Ok-clause-next c =
    found_rows _ _ _ c.requires.marked _ _ _ _ _ c.requires.old_rows (c.in_ok-distinct.ensures.steps ∙ ap (λ (m : MarksView). distinct_states m.candidates) c.marks.view_is)
    (c.as_slice-2.ensures.value ∙ c.in_ok-lead_all.ensures.leads) (c.as_slice-3.ensures.value ∙ ap (λ (m : MarksView). m.sets) c.marks.view_is)
    c.in-Ok.ensures.rows c.in-Ok.ensures.froms c.in-Ok.ensures.united

pub returns-in-Ok-clause-shape : goal.returns-in-Ok-clause-shape
returns-in-Ok-clause-shape c = halves_shaped _ _ _ c.in-Ok.ensures.froms c.in-Ok.ensures.shapes

pub returns-in-Ok-clause-within : goal.returns-in-Ok-clause-within
returns-in-Ok-clause-within c = rows_within _ _ _ _ _ c.in-Ok.ensures.rows c.in-Ok.ensures.froms
