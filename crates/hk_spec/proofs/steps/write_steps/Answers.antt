use Rattle.std.proofs.Common.{◌≡◌, ◌<◌, ◌+◌, length, arith, ap, sym, ◌∙◌, set, take, drop, map, ◌++◌}
use Rattle.std.proofs.lemmas.List.{length-set}
use Rattle.hk_spec.specs.Steps.{step_value}
use Rattle.hk_spec.proofs.PartLaws.{within_part, step_written, rest_after}
use Rattle.hk_spec.proofs.steps.write_steps.Goals as goal

pub overflow_add-first : goal.overflow_add-first
overflow_add-first c =
    let within : c.args.first + c.loop-i.i < length c.args.to.now = within_part _ _ _ _ c.loop-i-test.true c.requires in
    grind (arith, c.len-places.ensures, c.len-places.type_inv)

pub loop-i-preserved : goal.loop-i-preserved
loop-i-preserved c =
    let within : c.args.first + c.loop-i.i < length c.args.to.now = within_part _ _ _ _ c.loop-i-test.true c.requires in
    let inside : c.args.first + c.loop-i.i < length c.loop-i.to = omega arith in
    let written : c.set.new.self ≡ set c.loop-i.to (c.args.first + c.loop-i.i) (step_value c.args.at.now c.index-steps-i.result) = c.set.ensures ∙ ap (set c.loop-i.to (c.args.first + c.loop-i.i)) c.step_value-value.ensures in
    record {
      due =
          step_written (step_value c.args.at.now) c.args.steps.now c.index-steps-i.result _ c.loop-i.to _ c.args.first c.loop-i.i c.loop-i-test.true c.index-steps-i.is inside c.loop-i.invariant.due
          ∙ ap (λ state. take (c.args.first + (c.loop-i.i + 1)) state ++ (map (step_value c.args.at.now) (drop (c.loop-i.i + 1) c.args.steps.now) ++ drop (c.args.first + length c.args.steps.now) c.args.to.now)) (sym written);
      rest = ap (drop (c.args.first + (c.loop-i.i + 1))) written ∙ rest_after c.loop-i.to c.args.to.now c.args.first c.loop-i.i (step_value c.args.at.now c.index-steps-i.result) c.loop-i.invariant.rest;
      long = ap length written ∙ (length-set _ _ _ ∙ c.loop-i.invariant.long);
    }
