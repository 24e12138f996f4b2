use Rattle.hk_grade.proofs.Revisable.{graded_revisable}
use Rattle.hk_grade.proofs.laws.graded_is_revisable.Goals as goal

pub returns : goal.returns
returns c = graded_revisable
