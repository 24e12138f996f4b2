use Rattle.std.proofs.Common.{All, ◌∙◌, refl, subst}
use Rattle.std.proofs.lemmas.List.{take_all}
use Rattle.std.proofs.lemmas.List.Elements.{All-more}
use Rattle.hk_group.specs.Solutions.{Holds}
use Rattle.hk_group.proofs.judging.judge.Goals as goal

pub loop-constraint-preserved : goal.loop-constraint-preserved
loop-constraint-preserved c =
    All-more (Holds c.args.values.now) c.constraints-constraint-items.result.now c.loop-constraint.constraint-index c.constraint-item.result c.loop-constraint-test.true c.loop-constraint.invariant
    (subst (Holds c.args.values.now) c.constraint-item.is (c.in_ok-holds.ensures.ok.0 c.if-not-branch.false))

pub returns-clause-holds : goal.returns-clause-holds
returns-clause-holds c =
    let every = take_all c.loop-constraint.constraint-index c.constraints-constraint-items.result.now c.loop-constraint-test.false ∙ c.constraints-constraint-items.ensures.constraints in
    ((λ some. subst (All (Holds c.args.values.now)) every c.loop-constraint.invariant), (λ all. refl))
