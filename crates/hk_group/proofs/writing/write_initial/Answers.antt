use Rattle.std.proofs.Common.{◌≡◌, ◌<◌, ◌+◌, length, arith, ap, sym, ◌∙◌, set, take, drop, map, ◌++◌}
use Rattle.std.proofs.lemmas.List.{length-set}
use Rattle.hk_spec.specs.declared.parts.PropDecl.{PropDecl}
use Rattle.hk_spec.proofs.PartLaws.{within_part, step_written, rest_after}
use Rattle.hk_group.proofs.writing.write_initial.Goals as goal

pub loop-i-preserved : goal.loop-i-preserved
loop-i-preserved c =
    let within : c.args.first + c.loop-i.i < length c.args.to.now = within_part _ _ _ _ c.loop-i-test.true c.requires in
    let written : c.set.new.self ≡ set c.loop-i.to (c.args.first + c.loop-i.i) c.index-properties-i.result.init = c.set.ensures ∙ ap (λ (p : PropDecl). set c.loop-i.to (c.args.first + c.loop-i.i) p.init) (sym c.index-properties-i.is) in
    let inside : c.args.first + c.loop-i.i < length c.loop-i.to = omega arith in
    record {
      due =
          step_written (λ (p : PropDecl). p.init) c.args.properties.now c.index-properties-i.result _ c.loop-i.to _ c.args.first c.loop-i.i c.loop-i-test.true c.index-properties-i.is inside c.loop-i.invariant.due
          ∙ ap (λ state. take (c.args.first + (c.loop-i.i + 1)) state ++ (map (λ (p : PropDecl). p.init) (drop (c.loop-i.i + 1) c.args.properties.now) ++ drop (c.args.first + length c.args.properties.now) c.args.to.now)) (sym written);
      rest = ap (drop (c.args.first + (c.loop-i.i + 1))) written ∙ rest_after c.loop-i.to c.args.to.now c.args.first c.loop-i.i c.index-properties-i.result.init c.loop-i.invariant.rest;
      long = ap length written ∙ (length-set _ _ _ ∙ c.loop-i.invariant.long);
    }
