use Rattle.std.proofs.Common.{◌≡◌, ◌<◌, ◌≤◌, ℕ, List, All, length, slice_index, inl, inr, rules, sym, ap, ◌∙◌, subst, to_z, ◌+ℤ◌, le_trans}
use Rattle.std.specs.Int.{w64}
use Rattle.std.proofs.lemmas.List.Elements.{All-head, All-rest}
use Rattle.hk_group.specs.Limits.{greatest_coefficient}
use Rattle.hk_group.specs.Problems.{IsWithin}
use Rattle.hk_group.specs.Solutions.{linear_value}
use Rattle.hk_group.proofs.SumSizes.{HasRoom, HasRoom-nothing, IsTurn, turn_fits, scope_short}
use Rattle.hk_group.proofs.Sums.{linear_value-start, linear_value-more, linear_value-whole}
use Rattle.hk_group.proofs.linear.linear_value.Goals as goal
use Rattle.hk_group.proofs.linear.linear_value.Goals.{After-from}

-- this turn's product and sum fit
turn : (c : After-from) → IsTurn (to_z w64 c.loop-variable.sum-bits) c.in-Some.coef.now c.from.result (slice_index c.args.values.now c.in-Some.variable.now) (length c.next.new.self.a.rest.now)
turn c =
    let steps = c.in-Some.ensures.steps in
    let room = subst (λ (rest : List ℕ). HasRoom (to_z w64 c.loop-variable.sum-bits) (length rest)) steps.0 c.loop-variable.invariant.room in
    let declared = All-head (λ variable. variable < length c.args.values.now) c.in-Some.variable.now c.next.new.self.a.rest.now (subst (All (λ variable. variable < length c.args.values.now)) steps.0 c.loop-variable.invariant.declared) in
    let within = All-head (IsWithin greatest_coefficient) c.in-Some.coef.now c.next.new.self.b.rest.now (subst (All (IsWithin greatest_coefficient)) steps.1 c.loop-variable.invariant.small) in
    turn_fits (to_z w64 c.loop-variable.sum-bits) c.in-Some.coef.now c.from.result (slice_index c.args.values.now c.in-Some.variable.now) (length c.next.new.self.a.rest.now)
    room within (c.requires.small c.in-Some.variable.now 0 declared) c.from.ensures

pub loop-variable-init : goal.loop-variable-init
loop-variable-init c =
    let scoped : c.into_iter-variable-iterator.result.a.rest.now ≡ c.args.scope.now = search rules in
    let coefficients : c.into_iter-variable-iterator.result.b.rest.now ≡ c.args.coefs.now = search rules in
    record {
      whole = linear_value-start c.args.scope.now c.into_iter-variable-iterator.result.a.rest.now c.args.coefs.now c.into_iter-variable-iterator.result.b.rest.now c.args.values.now scoped coefficients;
      declared = subst (All (λ variable. variable < length c.args.values.now)) (sym scoped) c.requires.linear.over.declared;
      small = subst (All (IsWithin greatest_coefficient)) (sym coefficients) c.requires.linear.small;
      room = HasRoom-nothing (length c.into_iter-variable-iterator.result.a.rest.now)
          (subst (λ (rest : List ℕ). length rest ≤ 256) (sym scoped) (le_trans (scope_short (length c.args.values.now) c.args.scope.now c.requires.linear.over) c.requires.few));
    }

pub overflow_mul-sum : goal.overflow_mul-sum
overflow_mul-sum c = (turn c).product_fits

pub overflow_add-sum : goal.overflow_add-sum
overflow_add-sum c = (turn c).sum_fits

pub loop-variable-preserved : goal.loop-variable-preserved
loop-variable-preserved c =
    let steps = c.in-Some.ensures.steps in
    record {
      whole = linear_value-more (linear_value c.args.scope.now c.args.coefs.now c.args.values.now) (to_z w64 c.loop-variable.sum-bits)
          c.loop-variable.variable-iterator.a.rest.now c.next.new.self.a.rest.now c.loop-variable.variable-iterator.b.rest.now c.next.new.self.b.rest.now c.in-Some.variable.now c.in-Some.coef.now c.args.values.now
          c.loop-variable.invariant.whole steps.0 steps.1
          ∙ ap (λ z. z +ℤ linear_value c.next.new.self.a.rest.now c.next.new.self.b.rest.now c.args.values.now) (sym (turn c).is);
      declared = All-rest (λ variable. variable < length c.args.values.now) c.in-Some.variable.now c.next.new.self.a.rest.now c.loop-variable.variable-iterator.a.rest.now steps.0 c.loop-variable.invariant.declared;
      small = All-rest (IsWithin greatest_coefficient) c.in-Some.coef.now c.next.new.self.b.rest.now c.loop-variable.variable-iterator.b.rest.now steps.1 c.loop-variable.invariant.small;
      room = subst (λ z. HasRoom z (length c.next.new.self.a.rest.now)) (sym (turn c).is) (turn c).room;
    }

pub returns : goal.returns
returns c =
    linear_value-whole (linear_value c.args.scope.now c.args.coefs.now c.args.values.now) (to_z w64 c.loop-variable.sum-bits)
    c.loop-variable.variable-iterator.a.rest.now c.loop-variable.variable-iterator.b.rest.now c.args.values.now c.loop-variable.invariant.whole
    (elim c.in-None.ensures.steps [ inl named ↦ inl named.1.0 | inr valued ↦ inr valued.1.0 ])
