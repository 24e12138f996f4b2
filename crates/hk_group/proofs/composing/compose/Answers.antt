use Rattle.std.proofs.Common.{All, Any, subst}
use Rattle.std.specs.List.Sorted.{IsStrictlyIncreasing}
use Rattle.hk_group.specs.Composed.{not_rising, no_memory}
use Rattle.hk_group.proofs.composing.compose.Goals as goal

pub returns-then-not-all_rise-clause-err : goal.returns-then-not-all_rise-clause-err
returns-then-not-all_rise-clause-err c = not_rising (subst (Any (λ scope. IsStrictlyIncreasing scope → ⊥)) c.as_slice.ensures (c.all_rise.ensures.fall c.if-not-all_rise.true))

pub returns-in-Err-clause-err : goal.returns-in-Err-clause-err
returns-in-Err-clause-err c = no_memory (subst (All IsStrictlyIncreasing) c.as_slice.ensures (c.all_rise.ensures.rise c.if-not-all_rise.false))
