use Rattle.hk_grade.proofs.GradedSteps.{graded_monotone}
use Rattle.hk_grade.proofs.laws.graded_is_monotone.Goals as goal

pub returns : goal.returns
returns c = graded_monotone
