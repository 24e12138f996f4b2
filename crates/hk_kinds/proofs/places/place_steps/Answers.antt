use Rattle.std.proofs.Common.{◌≡◌, ◌-◌, ◌<◌, [], length, get_or, arith, ap, sym, ◌∙◌, subst}
use Rattle.hk_kinds.specs.Distinct.{insert_state}
use Rattle.hk_kinds.specs.inside.Keys.{IsLast, key_numbers}
use Rattle.hk_kinds.specs.Orders.{state_order}
use Rattle.hk_kinds.proofs.KeyLaws.{length_numbers, number_at, number_within}
use Rattle.hk_kinds.proofs.LastStates.{last_of}
use Rattle.hk_kinds.proofs.PlaceSteps.{taken_ascend, taken_few, taken_after, taken_more, taken_all, taken_places}
use Rattle.hk_kinds.proofs.places.place_steps.Goals as goal

pub at-requires : goal.at-requires
at-requires c = number_within _ _ _ c.requires.sorting c.loop-i-test.true

pub take_step-requires-clause-few : goal.take_step-requires-clause-few
take_step-requires-clause-few c = omega (arith, taken_few _ _ _ _ _ c.requires.sorting c.loop-i.invariant.0, c.requires.sorting.long, length_numbers c.args.keys.now)

pub take_step-requires-clause-ascend : goal.take_step-requires-clause-ascend
take_step-requires-clause-ascend c = taken_ascend _ _ _ _ _ c.requires.sorting c.loop-i.invariant.0

pub take_step-requires-clause-after : goal.take_step-requires-clause-after
take_step-requires-clause-after c =
    let lt : c.loop-i.i < length (key_numbers c.args.keys.now) = omega (arith, length_numbers c.args.keys.now) in
    let row : c.at.result ≡ get_or c.args.states.now.rows (get_or (key_numbers c.args.keys.now) c.loop-i.i 0) [] = c.at.ensures.row ∙ ap (λ n. get_or c.args.states.now.rows n []) (number_at _ _ c.loop-i-test.true) in
    λ some less. taken_after _ _ _ _ _ c.requires.sorting c.loop-i.invariant.0 lt some (ap (λ state. state_order state (last_of c.loop-i.steps.rows)) (sym row) ∙ less)

pub offset_bounds-places-number : goal.offset_bounds-places-number
offset_bounds-places-number c = omega (arith, number_within _ _ _ c.requires.sorting c.loop-i-test.true)

pub bounds-places-number : goal.bounds-places-number
bounds-places-number c = omega (arith, number_within _ _ _ c.requires.sorting c.loop-i-test.true, c.loop-i.invariant.0.long)

pub loop-i-preserved : goal.loop-i-preserved
loop-i-preserved c =
    let lt : c.loop-i.i < length (key_numbers c.args.keys.now) = omega (arith, length_numbers c.args.keys.now) in
    let rows = c.in_ok-take_step.ensures.rows ∙ ap (λ state. insert_state state c.loop-i.steps.rows) c.at.ensures.row in
    let last = subst (λ state. IsLast state c.take_step.new.steps.rows) c.at.ensures.row c.in_ok-take_step.ensures.last in
    (taken_more _ _ _ _ _ _ _ _ c.requires.sorting c.loop-i.invariant.0 lt (number_at _ _ c.loop-i-test.true) rows last c.in_ok-take_step.ensures.keeps (ap (λ n. n - 1) c.len.ensures), c.in_ok-take_step.ensures.width ∙ c.loop-i.invariant.1)

pub returns-clause-steps : goal.returns-clause-steps
returns-clause-steps c = taken_all _ _ _ _ _ c.requires.sorting c.loop-i.invariant.0 (omega (arith, length_numbers c.args.keys.now))

pub returns-clause-places : goal.returns-clause-places
returns-clause-places c = taken_places _ _ _ _ _ c.requires.sorting c.loop-i.invariant.0 (omega (arith, length_numbers c.args.keys.now))
