use Rattle.std.proofs.Common.{◌≡◌, ◌<◌, ◌≤◌, ◌-◌, ◌+◌, ℕ, pos, List, All, drop, length, slice_index, to_z, of_z, rules, arith, sym, ◌∙◌, subst, ◌⊎◌, inl, inr, refl}
use Rattle.std.specs.Int.{w64}
use Rattle.std.proofs.lemmas.Int.{to_z-of_z}
use Rattle.std.proofs.lemmas.List.{length-map}
use Rattle.std.proofs.lemmas.List.Elements.{All-rest, All-drop}
use Rattle.hk_spec.specs.Meanings.{LiesFrom}
use Rattle.hk_group.specs.Solutions.{scope_values}
use Rattle.hk_group.proofs.Windows.{same_bounds, Slides-start, Slides-turn, Slides-room, Slides-leaves, Slides-more, Slides-fails, Slides-end}
use Rattle.hk_group.proofs.counting.each_window.Goals as goal

pub loop-leaves-init : goal.loop-leaves-init
loop-leaves-init c =
    let scoped : c.into_iter-leaves-iterator.result.a.rest.now ≡ c.args.scope.now = search rules in
    let split : c.into_iter-leaves-iterator.result.b.rest.now ≡ c.split_at.result.1.now = search rules in
    let coming : c.into_iter-leaves-iterator.result.b.rest.now ≡ drop (c.args.window - 1) c.args.scope.now = split ∙ c.split_at.ensures.back in
    record {
      slides = Slides-start c.args.window c.args.set (to_z w64 (of_z w64 c.args.least)) (to_z w64 (of_z w64 c.args.most)) c.args.scope.now c.args.values.now c.split_at.result.0.now c.into_iter-leaves-iterator.result.a.rest.now
          c.into_iter-leaves-iterator.result.b.rest.now c.count_in-count.result c.requires.some scoped c.split_at.ensures.front coming c.count_in-count.ensures;
      leaving = subst (All (λ variable. variable < length c.args.values.now)) (sym scoped) c.requires.declared;
      coming = subst (All (λ variable. variable < length c.args.values.now)) (sym coming) (All-drop (λ variable. variable < length c.args.values.now) (c.args.window - 1) c.args.scope.now c.requires.declared);
      few = subst (λ (rest : List ℕ). length rest ≤ 256) (sym scoped) c.requires.few;
    }

pub overflow_add-count : goal.overflow_add-count
overflow_add-count c =
    let steps = c.in-Some.ensures.steps in
    let few = subst (λ (rest : List ℕ). length rest ≤ 256) steps.0 c.loop-leaves.invariant.few in
    let long : length (scope_values c.next.new.self.a.rest.now c.args.values.now) ≡ length c.next.new.self.a.rest.now = length-map c.next.new.self.a.rest.now (λ variable. slice_index c.args.values.now variable) in
    let room = Slides-room (Slides-turn c.args.values.now c.loop-leaves.invariant.slides steps.0 steps.1) c.bit_of-count.ensures (omega arith) in
    omega arith

pub returns-then-not-lies_from : goal.returns-then-not-lies_from
returns-then-not-lies_from c =
    let steps = c.in-Some.ensures.steps in
    let fails : LiesFrom (to_z w64 (of_z w64 c.args.least)) (to_z w64 (of_z w64 c.args.most)) (pos (c.loop-leaves.count + c.bit_of-count.result)) → ⊥
    = λ lies. let lied = c.lies_from.ensures.1 lies in let no = c.if-not-lies_from.true in cc in (
      (λ never. absurd (let untrue = never in cc)),
      (λ all. absurd (Slides-fails (Slides-turn c.args.values.now c.loop-leaves.invariant.slides steps.0 steps.1) c.bit_of-count.ensures fails
          ((same_bounds c.args.window c.args.set (scope_values c.args.scope.now c.args.values.now) (to_z-of_z w64 c.args.least c.ranges.least) (to_z-of_z w64 c.args.most c.ranges.most)).1 all))),
    )

pub overflow_sub-count : goal.overflow_sub-count
overflow_sub-count c =
    let steps = c.in-Some.ensures.steps in
    Slides-leaves (Slides-turn c.args.values.now c.loop-leaves.invariant.slides steps.0 steps.1) c.bit_of-count.ensures c.bit_of-count-in-loop-leaves.ensures

pub loop-leaves-preserved : goal.loop-leaves-preserved
loop-leaves-preserved c =
    let steps = c.in-Some.ensures.steps in
    record {
      slides = Slides-more (Slides-turn c.args.values.now c.loop-leaves.invariant.slides steps.0 steps.1) c.bit_of-count.ensures c.bit_of-count-in-loop-leaves.ensures (c.lies_from.ensures.0 c.if-not-lies_from.false);
      leaving = All-rest (λ variable. variable < length c.args.values.now) c.in-Some.leaves.now c.next.new.self.a.rest.now c.loop-leaves.leaves-iterator.a.rest.now steps.0 c.loop-leaves.invariant.leaving;
      coming = All-rest (λ variable. variable < length c.args.values.now) c.in-Some.comes.now c.next.new.self.b.rest.now c.loop-leaves.leaves-iterator.b.rest.now steps.1 c.loop-leaves.invariant.coming;
      few = let fewer = subst (λ (rest : List ℕ). length rest ≤ 256) steps.0 c.loop-leaves.invariant.few in omega arith;
    }

pub returns : goal.returns
returns c =
    let none : (length (scope_values c.loop-leaves.leaves-iterator.a.rest.now c.args.values.now) ≡ 0) ⊎ (length (scope_values c.loop-leaves.leaves-iterator.b.rest.now c.args.values.now) ≡ 0)
    = elim c.in-None.ensures.steps [
      | inl left ↦ inl (length-map c.loop-leaves.leaves-iterator.a.rest.now (λ variable. slice_index c.args.values.now variable) ∙ left.1.0)
      | inr came ↦ inr (length-map c.loop-leaves.leaves-iterator.b.rest.now (λ variable. slice_index c.args.values.now variable) ∙ came.1.0)
    ] in
    ((λ some. (same_bounds c.args.window c.args.set (scope_values c.args.scope.now c.args.values.now) (to_z-of_z w64 c.args.least c.ranges.least) (to_z-of_z w64 c.args.most c.ranges.most)).0 (Slides-end c.loop-leaves.invariant.slides none)), (λ all. refl))
