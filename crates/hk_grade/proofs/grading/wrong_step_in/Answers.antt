use Rattle.std.proofs.Common.{sym, ◌∙◌, arith}
use Rattle.std.proofs.lemmas.List.{length-map}
use Rattle.hk_grade.proofs.WrongPlaces.{allowed_below, allowed_all}
use Rattle.hk_grade.proofs.grading.wrong_step_in.Goals as goal

pub loop-at-preserved : goal.loop-at-preserved
loop-at-preserved c = allowed_below c.loop-at.invariant (sym c.wrong_at.ensures ∙ c.in_default.is)

pub returns-clause-none : goal.returns-clause-none
returns-clause-none c = λ _. allowed_all _ _ _ (λ k below. c.loop-at.invariant k (let done = c.loop-at-test.false in let long = length-map c.args.properties.now (λ p. p.kind) in omega (arith, below, done, long)))
