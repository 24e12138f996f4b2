use Rattle.std.proofs.Common.{sym, ◌∙◌}
use Rattle.hk_grade.proofs.WrongPlaces.{test_is_first}
use Rattle.hk_grade.proofs.grading.first_wrong.Goals as goal

pub returns-in-Some-clause-some : goal.returns-in-Some-clause-some
returns-in-Some-clause-some c = test_is_first c.args.spec.now (sym c.wrong_test_in.ensures ∙ c.in-Some.is)
