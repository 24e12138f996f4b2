use Rattle.std.proofs.Common.{◌≡◌, length, slice_index, arith, ap, ◌∙◌}
use Rattle.std.proofs.lemmas.List.{length-set}
use Rattle.hk_text.specs.Sets.{members}
use Rattle.hk_prop.proofs.Removals.{none_left, others_turn, removed_turn, within_turn}
use Rattle.hk_prop.proofs.narrowing.remove_all.Goals as goal

pub values-preserved : goal.values-preserved
values-preserved c =
    let x = c.args.variable in
    let old = c.args.domains.now.sets in
    let now = c.values.domains.sets in
    let new = c.remove.new.self.sets in
    let left = c.values.left in
    let value = c.split_least-value.result.0 in
    let rest = c.split_least-value.result.1 in
    let is = c.split_least-value.ensures.values in
    let gone = c.split_least-value.ensures.gone in
    let i = c.values.invariant in
    let removed = c.in_ok-remove.ensures.removed in
    let others = c.in_ok-remove.ensures.others in
    record {
      long = ap length others ∙ (length-set now x (slice_index new x) ∙ i.long);
      others = others_turn old now new x i.others others;
      within = within_turn left rest value is gone (slice_index old x) (slice_index now x) (slice_index new x) c.args.gone removed i.within i.removed;
      removed = removed_turn left rest value is gone (slice_index old x) (slice_index now x) (slice_index new x) c.args.gone removed i.within i.removed;
      stack = c.in_ok-remove.ensures.stack ∙ i.stack;
    }

pub returns-clause-removed : goal.returns-clause-removed
returns-clause-removed c = λ value small.
    let none : length (members c.values.left) ≡ 0 = omega (arith, c.values-test.false, c.value_count.ensures) in
    let both = c.values.invariant.removed value small in (
      λ has. let had = both.0 has in (had.0, λ go. none_left c.values.left value none small (had.1 go)),
      λ had. both.1 (had.0, λ go. absurd (had.1 go)),
    )
