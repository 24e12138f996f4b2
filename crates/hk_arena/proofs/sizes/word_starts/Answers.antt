use Rattle.std.proofs.Common.{◌≡◌, ℕ, suc, ◌+◌, length, ◌∙◌, ap, arith}
use Rattle.hk_table.specs.Tables.{PlainShape}
use Rattle.hk_arena.proofs.CellCounts.{NextWords, next_words, listed_pushed, words_at-first}
use Rattle.hk_arena.specs.Cells.{listed}
use Rattle.hk_arena.specs.Forms.{Form, words_at}
use Rattle.hk_arena.proofs.sizes.word_starts.Goals as goal

step : (c : goal.After-value_count) → NextWords (record { shape = c.args.shape.now; width = c.args.width }) c.loop-set.set-index c.value_count.result
step c =
    let sets_are = c.as_slice-sets.ensures ∙ ap (λ (s : PlainShape). s.domains) c.shape.view_is in
    next_words c.args.shape.now c.args.width c.as_slice-sets.result.now c.loop-set.set-index c.value_count.result c.requires sets_are c.loop-set-test.true c.value_count.ensures

pub loop-set-init : goal.loop-set-init
loop-set-init c =
    let sets_are = c.as_slice-sets.ensures ∙ ap (λ (s : PlainShape). s.domains) c.shape.view_is in record {
      starts = c.new-starts.ensures.items;
      next = omega (arith, ap length sets_are, words_at-first (record { shape = c.args.shape.now; width = c.args.width }));
    }

pub overflow_add-next-in-loop-set : goal.overflow_add-next-in-loop-set
overflow_add-next-in-loop-set c = let s = step c in omega arith

pub overflow_mul-next : goal.overflow_mul-next
overflow_mul-next c = let s = step c in omega arith

pub overflow_add-next-in-loop-set-2 : goal.overflow_add-next-in-loop-set-2
overflow_add-next-in-loop-set-2 c = let s = step c in omega arith

pub loop-set-preserved : goal.loop-set-preserved
loop-set-preserved c =
    let form : Form = record { shape = c.args.shape.now; width = c.args.width } in record {
      starts = listed_pushed c.loop-set.set-index (λ layer. words_at form layer 0) c.loop-set.starts.items c.push.new.self.items c.loop-set.next c.in_ok-push.ensures.items c.loop-set.invariant.starts c.loop-set.invariant.next;
      next = let s = step c in omega arith;
    }

pub returns : goal.returns
returns c =
    let form : Form = record { shape = c.args.shape.now; width = c.args.width } in
    let at = c.loop-set.set-index in
    let starts : ℕ → ℕ = λ layer. words_at form layer 0 in
    let sets_are = c.as_slice-sets.ensures ∙ ap (λ (s : PlainShape). s.domains) c.shape.view_is in
    let all : at + 1 ≡ suc (length form.shape.domains) = omega (arith, ap length sets_are) in
    listed_pushed at starts c.loop-set.starts.items c.push-2.new.self.items c.loop-set.next c.in_ok-push-2.ensures.items c.loop-set.invariant.starts c.loop-set.invariant.next ∙ ap (λ n. listed n starts) all
