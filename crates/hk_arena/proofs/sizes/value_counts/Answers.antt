use Rattle.std.proofs.Common.{◌≡◌, ℕ, suc, ◌+◌, length, sym, ◌∙◌, ap, arith}
use Rattle.hk_table.specs.Tables.{PlainShape}
use Rattle.hk_arena.proofs.CellCounts.{count_of-set, listed_pushed, values_of-last}
use Rattle.hk_arena.specs.Diagrams.{values_of}
use Rattle.hk_arena.specs.Cells.{listed}
use Rattle.hk_arena.proofs.sizes.value_counts.Goals as goal

pub loop-set-preserved : goal.loop-set-preserved
loop-set-preserved c =
    let shape = c.args.shape.now in
    let at = c.loop-set.set-index in
    let sets_are = c.as_slice-set-items.ensures ∙ ap (λ (s : PlainShape). s.domains) c.shape.view_is in
    let here = count_of-set shape c.as_slice-set-items.result.now at c.value_count.result sets_are c.loop-set-test.true c.value_count.ensures in
    listed_pushed at (λ layer. length (values_of shape layer)) c.loop-set.counts.items c.push.new.self.items c.value_count.result c.in_ok-push.ensures.items c.loop-set.invariant here

pub returns : goal.returns
returns c =
    let shape = c.args.shape.now in
    let at = c.loop-set.set-index in
    let counts : ℕ → ℕ = λ layer. length (values_of shape layer) in
    let sets_are = c.as_slice-set-items.ensures ∙ ap (λ (s : PlainShape). s.domains) c.shape.view_is in
    let end : length shape.domains ≡ at = omega (arith, ap length sets_are) in
    let none : 0 ≡ counts at = sym (ap length (values_of-last shape)) ∙ ap counts end in
    let all : at + 1 ≡ suc (length shape.domains) = omega (arith, end) in
    listed_pushed at counts c.loop-set.counts.items c.push-2.new.self.items 0 c.in_ok-push-2.ensures.items c.loop-set.invariant none ∙ ap (λ n. listed n counts) all
