use Rattle.std.proofs.Common.{◌≡◌, ◌+◌, ◌∷◌, length, drop, arith, sym, ◌∙◌, ap}
use Rattle.std.proofs.lemmas.List.{drop_more}
use Rattle.hk_layers.proofs.RowMarks.{marks_more}
use Rattle.hk_layers.specs.inside.Targets.{lists_of}
use Rattle.hk_layers.proofs.marking.mark_row.Goals as goal
use Rattle.hk_text.specs.Sets.{members}

pub loop-at-preserved : goal.loop-at-preserved
loop-at-preserved c =
    let sets = c.args.sets.now in
    let at = c.loop-at.at in
    let set = c.index-sets-at.result in
    let before = c.loop-at.invariant in
    let mark = c.in_ok-mark_value.ensures in
    let values_are = c.split_least-value.ensures.values in
    let sets_are : drop at sets ≡ set ∷ drop (at + 1) sets = drop_more sets at set c.loop-at-test.true ∙ ap (λ s. s ∷ drop (at + 1) sets) (sym c.index-sets-at.is) in
    let long : length (drop (at + 1) sets) ≡ length (members c.split_least-value.result.1) = omega (arith, ap length sets_are, ap length values_are, before.long) in record {
      long = long;
      marks = marks_more c.args.spot.now c.args.down.now _ _ _ _ _ _ _ _ _ values_are (ap lists_of sets_are) mark.marks before.marks;
      marked = mark.marked;
      candidates = omega (arith, mark.candidates, before.candidates);
      width = mark.width ∙ before.width;
      fates = omega (arith, mark.long, before.fates);
    }
