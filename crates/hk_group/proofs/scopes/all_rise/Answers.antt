use Rattle.std.proofs.Common.{◌≡◌, All, slice_index_or, ◌∙◌, subst, arith}
use Rattle.std.specs.List.Sorted.{IsStrictlyIncreasing}
use Rattle.std.proofs.lemmas.List.{take_all}
use Rattle.std.proofs.lemmas.List.Elements.{All-more}
use Rattle.hk_group.proofs.scopes.all_rise.Goals as goal

pub loop-scope-preserved : goal.loop-scope-preserved
loop-scope-preserved c =
    let same : c.as_slice.result.now ≡ slice_index_or c.args.scopes.now c.loop-scope.scope-index c.scope-item.result = c.as_slice.ensures ∙ c.scope-item.is in
    All-more IsStrictlyIncreasing c.args.scopes.now c.loop-scope.scope-index c.scope-item.result c.loop-scope-test.true c.loop-scope.invariant (subst IsStrictlyIncreasing same (c.is_rising.ensures.0 c.if-not-is_rising.false))

pub returns-clause-rise : goal.returns-clause-rise
returns-clause-rise c = λ _. subst (All IsStrictlyIncreasing) (take_all c.loop-scope.scope-index c.args.scopes.now (omega arith)) c.loop-scope.invariant
