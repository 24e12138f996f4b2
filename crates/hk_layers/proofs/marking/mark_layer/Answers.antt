use Rattle.std.proofs.Common.{◌≡◌, ◌<◌, ◌+◌, ◌*◌, length, arith, ◌∙◌, ap}
use Rattle.std.proofs.lemmas.List.{drop_more}
use Rattle.hk_layers.proofs.RowMarks.{rows_more}
use Rattle.hk_table.proofs.ValueSets.{members_few}
use Rattle.hk_layers.specs.Flat.{half_at}
use Rattle.hk_layers.specs.inside.Targets.{lists_of}
use Rattle.hk_layers.proofs.marking.mark_layer.Goals as goal
use Rattle.hk_text.specs.Sets.{members}

pub mark_row-requires-clause-few : goal.mark_row-requires-clause-few
mark_row-requires-clause-few c =
    let long : length c.as_slice.result.now ≡ length (members c.args.spot.now.values) = ap length c.as_slice.ensures.value ∙ c.in_ok-read_targets.ensures.long in
    let within : c.loop-i.i < length c.args.front.now.halves = omega (arith, c.loop-i-test.true, c.len-i-end.ensures) in
    omega (arith, long, within, members_few c.args.spot.now.values, c.loop-i.invariant.candidates, c.requires.few)

pub loop-i-preserved : goal.loop-i-preserved
loop-i-preserved c =
    let halves = c.args.front.now.halves in
    let i = c.loop-i.i in
    let before = c.loop-i.invariant in
    let row = c.in_ok-mark_row.ensures in
    let long : length c.as_slice.result.now ≡ length (members c.args.spot.now.values) = ap length c.as_slice.ensures.value ∙ c.in_ok-read_targets.ensures.long in
    let within : i < length halves = omega (arith, c.loop-i-test.true, c.len-i-end.ensures) in record {
      marks = λ old old_next each count olds_are.
          rows_more c.args.spot.now old old_next _ _ _ _ _ (half_at halves i) _ _ _ (drop_more halves i _ within) c.down.ensures c.from.ensures
          (ap lists_of c.as_slice.ensures.value ∙ c.in_ok-read_targets.ensures.targets old old_next each count olds_are)
          row.marks (before.marks old old_next each count olds_are);
      marked = row.marked;
      candidates = omega (arith, row.candidates, before.candidates, long, members_few c.args.spot.now.values);
      width = row.width ∙ before.width;
      fates = row.long ∙ (ap (λ n. n + length (members c.args.spot.now.values)) before.fates ∙ omega arith);
    }

pub returns-clause-long : goal.returns-clause-long
returns-clause-long c =
    let all : c.loop-i.i ≡ length c.args.front.now.halves = omega (arith, c.loop-i-test.false, c.loop-i.auto.i-end, c.len-i-end.ensures) in
    c.loop-i.invariant.fates ∙ ap (λ n. n * length (members c.args.spot.now.values)) all
