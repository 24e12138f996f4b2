use Rattle.std.proofs.Common.{◌≡◌, ◌+◌, sym, ◌∙◌, ap, subst, arith}
use Rattle.hk_table.specs.Tables.{PlainShape}
use Rattle.hk_arena.proofs.CellCounts.{few_properties, nums_in-le, sets_in-le, small_form}
use Rattle.hk_arena.specs.Forms.{nums_in, sets_in}
use Rattle.hk_arena.specs.Layouts.{IsLayout}
use Rattle.hk_arena.proofs.layout.Layout.make.Goals as goal

pub overflow_add-up_set : goal.overflow_add-up_set
overflow_add-up_set c =
    let shape = c.args.shape.now in
    let sets = c.state_sets-up_set.ensures ∙ ap sets_in (c.as_slice-2.ensures ∙ ap (λ (s : PlainShape). s.down) c.shape.view_is) in
    omega (arith, few_properties shape c.args.width c.requires, sets_in-le shape.down)

pub overflow_add-row_nums : goal.overflow_add-row_nums
overflow_add-row_nums c =
    let shape = c.args.shape.now in
    let down = c.state_nums-up_num.ensures ∙ ap nums_in (c.as_slice.ensures ∙ ap (λ (s : PlainShape). s.down) c.shape.view_is) in
    let up = c.state_nums.ensures ∙ ap nums_in (c.as_slice-3.ensures ∙ ap (λ (s : PlainShape). s.up) c.shape.view_is) in
    omega (arith, few_properties shape c.args.width c.requires, nums_in-le shape.down, nums_in-le shape.up)

pub overflow_add-row_bits : goal.overflow_add-row_bits
overflow_add-row_bits c =
    let shape = c.args.shape.now in
    let down = c.state_sets-up_set.ensures ∙ ap sets_in (c.as_slice-2.ensures ∙ ap (λ (s : PlainShape). s.down) c.shape.view_is) in
    let up = c.state_sets.ensures ∙ ap sets_in (c.as_slice-4.ensures ∙ ap (λ (s : PlainShape). s.up) c.shape.view_is) in
    omega (arith, few_properties shape c.args.width c.requires, sets_in-le shape.down, sets_in-le shape.up)

pub invariant_of-result : goal.invariant_of-result
invariant_of-result c =
    let shape = c.args.shape.now in
    let up_num = c.state_nums-up_num.result in
    let sets = c.state_sets-up_set.result in
    let down_nums = c.state_nums-up_num.ensures ∙ ap nums_in (c.as_slice.ensures ∙ ap (λ (s : PlainShape). s.down) c.shape.view_is) in
    let up_nums = c.state_nums.ensures ∙ ap nums_in (c.as_slice-3.ensures ∙ ap (λ (s : PlainShape). s.up) c.shape.view_is) in
    let down_sets = c.state_sets-up_set.ensures ∙ ap sets_in (c.as_slice-2.ensures ∙ ap (λ (s : PlainShape). s.down) c.shape.view_is) in
    let up_sets = c.state_sets.ensures ∙ ap sets_in (c.as_slice-4.ensures ∙ ap (λ (s : PlainShape). s.up) c.shape.view_is) in
    let same : c.in_ok-shape.shape ≡ shape = rw c.in_ok-shape.ensures.first at c.copied.ensures in
    let values_are = rw c.in_ok-shape.ensures.second at c.pair.ensures.first in
    let words_are = rw c.in_ok-shape.ensures.second at c.pair.ensures.second in
    subst (λ (s : PlainShape). IsLayout (record { shape = s; width = c.args.width }) (up_num + c.state_nums.result) (2 + sets + c.state_sets.result) up_num (2 + sets) c.in_ok-shape.values.items c.in_ok-shape.words.items) (sym same)
    (record {
      small = small_form shape c.args.width c.requires;
      num_size = omega arith;
      bits_size = omega arith;
      up_nums = down_nums;
      up_sets = omega arith;
      all_values = rw values_are at c.value_counts.ensures;
      all_words = rw words_are at c.word_starts.ensures;
    })
