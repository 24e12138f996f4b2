use Rattle.std.proofs.Common.{true≢false, refl, sym, arith}
use Rattle.std.specs.Cmp.Lexicographic.{same_text}
use Rattle.hk_draft.proofs.SortedTexts.{differ_once_sorted, same_once_sorted}
use Rattle.hk_draft.proofs.repeats.all_differ.Goals as goal

pub returns-then-eq : goal.returns-then-eq
returns-then-eq c = (
  (λ no. absurd (true≢false (sym no))),
  λ differ. absurd (same_once_sorted _ _ c.sort_unstable.ensures.permutation c.loop-place.place c.loop-place.auto.place c.loop-place-test.true (same_text _ _ c.if-eq.ensures) differ),
)

pub returns : goal.returns
returns c = (
  (λ _. differ_once_sorted _ _ c.sort_unstable.ensures.permutation c.sort_unstable.ensures.sorted (λ k within. c.loop-place.invariant k (omega (arith, within, c.loop-place-test.false)))),
  λ _. refl,
)
