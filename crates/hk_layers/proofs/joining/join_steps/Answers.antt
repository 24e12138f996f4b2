use Rattle.std.proofs.Common.{◌≡◌, ◌<◌, length, get_or, [], arith, ap, ap₂, sym, ◌∙◌, subst}
use Rattle.hk_group.specs.Groups.{group_down_shape}
use Rattle.hk_layers.specs.Layers.{row_for}
use Rattle.hk_layers.specs.Spots.{PlainSpot}
use Rattle.hk_layers.specs.inside.Leading.{rows_with}
use Rattle.hk_layers.proofs.StepRows.{JoinedUpTo, joined_few, joined_next, joined_all, joined_shapes}
use Rattle.hk_layers.proofs.joining.join_steps.Goals as goal

pub take_step-requires-clause-few : goal.take_step-requires-clause-few
take_step-requires-clause-few c = omega (arith, joined_few _ _ _ _ _ c.requires.spot.some_rows (omega (arith, c.len-place-end.ensures)) c.loop-place.invariant.0, c.requires.few)

pub loop-place-preserved : goal.loop-place-preserved
loop-place-preserved c =
    let lt : c.loop-place.place < length c.args.steps.now.rows = omega (arith, c.len-place-end.ensures) in
    let row : c.row_of_place-row.result ≡ row_for c.args.spot.now.width (length c.args.steps.now.rows) c.loop-place.place = c.row_of_place-row.ensures.row ∙ ap₂ (λ width count. row_for width count c.loop-place.place) (ap (λ (s : PlainSpot). s.width) c.spot.view_is) c.len.ensures in
    let kinds = group_down_shape c.args.spot.now.group in
    let rows : c.take_step.new.downs.rows ≡ rows_with kinds (row_for c.args.spot.now.width (length c.args.steps.now.rows) c.loop-place.place) (get_or c.args.steps.now.rows c.loop-place.place []) c.loop-place.downs.rows =
    c.in_ok-take_step.ensures.rows ∙ ap₂ (λ n step. rows_with kinds n step c.loop-place.downs.rows) row c.at.ensures.row in
    (subst (JoinedUpTo kinds c.args.spot.now.width c.args.steps.now.rows _) (sym rows) (joined_next _ _ _ _ _ c.requires.ascend lt c.loop-place.invariant.0), c.in_ok-take_step.ensures.width ∙ c.loop-place.invariant.1)

pub returns-clause-rows : goal.returns-clause-rows
returns-clause-rows c = joined_all _ _ _ c.loop-place.place _ c.requires.spot.some_rows (omega (arith, c.len-place-end.ensures)) c.loop-place.invariant.0

pub returns-clause-shapes : goal.returns-clause-shapes
returns-clause-shapes c = joined_shapes _ _ _ c.loop-place.place _ c.requires.shapes (omega (arith, c.len-place-end.ensures)) c.loop-place.invariant.0
