use Rattle.std.proofs.Common.{◌≡◌, ℕ, ◌<◌, None}
use Rattle.hk_spec.specs.Grades.{wrong_step_at}
use Rattle.hk_spec.specs.Specifications.{kinds_of_properties}
use Rattle.hk_grade.proofs.grading.wrong_step_in.Given as goal

-- the steps at the places so far have allowed senses
abbrev pub invariant-loop-at : goal.invariant-loop-at
invariant-loop-at l = (k : ℕ) → k < l.at → wrong_step_at l.of (kinds_of_properties l.properties) l.steps k ≡ None
