use Rattle.std.proofs.Common.{◌≡◌, ℕ, ◌+◌, ◌<◌, ◌∷◌, [], true, false, refl, List, vec_len, drop, get_or, length, arith, ap, sym, ◌∙◌, subst}
use Rattle.std.proofs.lemmas.Grind.{common_steps}
use Rattle.std.proofs.lemmas.List.{length-drop, length-reverse}
use Rattle.std.specs.Int.{w64}
use Rattle.std.proofs.lemmas.Int.{to_z-of_z}
use Rattle.std.proofs.Common.{to_z, of_z}
use Rattle.hk_kinds.specs.Shapes.{HasShape}
use Rattle.hk_spec.specs.Runs.{Accepts, AcceptsFrom, at_end}
use Rattle.hk_spec.specs.Specifications.{IsBound, up_shape}
use Rattle.hk_spec.specs.Steps.{test_passes}
use Rattle.hk_spec.specs.inside.UpStates.{exact_ups}
use Rattle.hk_spec.proofs.RunLaws.{left_is, all_left, exact_up_has_shape, taken, goes_on, refused, length-exact_ups}
use Rattle.hk_spec.proofs.StepLaws.{same_test}
use Rattle.hk_spec.proofs.runs.accepts_between.Goals as goal

pub unreachable-requires : goal.unreachable-requires
unreachable-requires c =
    let left : 0 < length (drop c.loop-position.position c.args.values.now) = omega (arith, length-drop c.loop-position.position c.args.values.now) in
    let kept : length c.loop-position.ups.items ≡ length (drop c.loop-position.position c.args.values.now) = ap length c.loop-position.invariant.ups ∙ (length-reverse (exact_ups c.args.bound.now c.loop-position.position (drop c.loop-position.position c.args.values.now)) ∙ length-exact_ups c.args.bound.now c.loop-position.position (drop c.loop-position.position c.args.values.now)) in
    let some : 0 < vec_len c.loop-position.ups = grind (arith, common_steps) in
    let none = c.in_default.ensures.variant.1 some in
    cc

pub passes_view-requires-clause-up : goal.passes_view-requires-clause-up
passes_view-requires-clause-up c =
    let bound : IsBound c.args.bound.now = subst IsBound c.bound.view_is c.bound.invariant in
    let rest : List ℕ = drop (c.loop-position.position + 1) c.args.values.now in
    let is : drop c.loop-position.position c.args.values.now ≡ get_or c.args.values.now c.loop-position.position 0 ∷ rest = left_is c.args.values.now c.loop-position.position c.loop-position-test.true in
    let after = taken c.args.bound.now c.loop-position.position (get_or c.args.values.now c.loop-position.position 0) rest (drop c.loop-position.position c.args.values.now) c.loop-position.ups.items c.pop.new.self.items c.in-Some.up is c.loop-position.invariant.ups c.in-Some.ensures.items in
    let long : c.loop-position.position + 1 + length rest ≡ c.args.bound.now.len = omega (arith, length-drop (c.loop-position.position + 1) c.args.values.now) in
    subst (HasShape (up_shape c.args.bound.now.spec)) (sym (c.view-in-loop-position.ensures ∙ after.1)) (exact_up_has_shape c.args.bound.now bound (c.loop-position.position + 1) rest long (all_left c.args.values.now (c.loop-position.position + 1) c.requires.values))

pub returns-then-not-passes_view : goal.returns-then-not-passes_view
returns-then-not-passes_view c =
    let rest : List ℕ = drop (c.loop-position.position + 1) c.args.values.now in
    let value : ℕ = get_or c.args.values.now c.loop-position.position 0 in
    let is : drop c.loop-position.position c.args.values.now ≡ value ∷ rest = left_is c.args.values.now c.loop-position.position c.loop-position-test.true in
    let after = taken c.args.bound.now c.loop-position.position value rest (drop c.loop-position.position c.args.values.now) c.loop-position.ups.items c.pop.new.self.items c.in-Some.up is c.loop-position.invariant.ups c.in-Some.ensures.items in
    let same : to_z w64 (of_z w64 c.args.best) ≡ c.args.best = to_z-of_z w64 c.args.best c.ranges.best in
    let tested : test_passes c.args.bound.now c.loop-position.position value c.loop-position.down c.in-Some.up (to_z w64 (of_z w64 c.args.best)) ≡ c.passes_view.result = sym (c.passes_view.ensures ∙ same_test c.args.bound.now c.loop-position.position value _ _ _ _ _ _ c.view.ensures c.view-in-loop-position.ensures refl) in
    let fails : c.passes_view.result ≡ false = c.if-not-passes_view.true in
    (λ never. cc, λ run. absurd (refused c.args.bound.now (to_z w64 (of_z w64 c.args.best)) c.loop-position.position value c.loop-position.down c.in-Some.up rest (drop c.loop-position.position c.args.values.now) is after.1 (tested ∙ fails) (c.loop-position.invariant.left.0 (subst (λ z. Accepts c.args.bound.now z c.args.values.now) (sym same) run))))

pub loop-position-preserved : goal.loop-position-preserved
loop-position-preserved c =
    let rest : List ℕ = drop (c.loop-position.position + 1) c.args.values.now in
    let value : ℕ = get_or c.args.values.now c.loop-position.position 0 in
    let is : drop c.loop-position.position c.args.values.now ≡ value ∷ rest = left_is c.args.values.now c.loop-position.position c.loop-position-test.true in
    let after = taken c.args.bound.now c.loop-position.position value rest (drop c.loop-position.position c.args.values.now) c.loop-position.ups.items c.pop.new.self.items c.in-Some.up is c.loop-position.invariant.ups c.in-Some.ensures.items in
    let tested : test_passes c.args.bound.now c.loop-position.position value c.loop-position.down c.in-Some.up (to_z w64 (of_z w64 c.args.best)) ≡ c.passes_view.result = sym (c.passes_view.ensures ∙ same_test c.args.bound.now c.loop-position.position value _ _ _ _ _ _ c.view.ensures c.view-in-loop-position.ensures refl) in
    let holds : c.passes_view.result ≡ true = c.if-not-passes_view.false in
    let more = goes_on c.args.bound.now (to_z w64 (of_z w64 c.args.best)) c.loop-position.position value c.loop-position.down c.in-Some.up c.in-Ok.next rest (drop c.loop-position.position c.args.values.now) is after.1 c.in-Ok.ensures.step (tested ∙ holds) in
    record {
      ups = after.0;
      shape = c.in-Ok.ensures.shape;
      left = (λ run. more.0 (c.loop-position.invariant.left.0 run), λ run. c.loop-position.invariant.left.1 (more.1 run));
    }

pub returns : goal.returns
returns c =
    let same : to_z w64 (of_z w64 c.args.best) ≡ c.args.best = to_z-of_z w64 c.args.best c.ranges.best in
    let end : drop c.loop-position.position c.args.values.now ≡ [] = grind (arith, common_steps) in
    let run : AcceptsFrom c.args.bound.now (to_z w64 (of_z w64 c.args.best)) c.loop-position.position c.loop-position.down (drop c.loop-position.position c.args.values.now) = subst (AcceptsFrom c.args.bound.now (to_z w64 (of_z w64 c.args.best)) c.loop-position.position c.loop-position.down) (sym end) at_end in
    (λ _. subst (λ z. Accepts c.args.bound.now z c.args.values.now) same (c.loop-position.invariant.left.1 run), λ _. refl)
