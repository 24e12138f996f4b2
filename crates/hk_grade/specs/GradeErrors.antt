-- Why a specification isn't graded.
use Rattle.hk_spec.specs.Grades.{IsFirstWrong, IsGraded}
use Rattle.hk_spec.specs.Specifications.{Specification}
use Rattle.hk_grade.specs.declared.errors.GradeError.{GradeError}
use Rattle.hk_grade.specs.declared.errors.GradeError.TheVariants.{Fault, Memory}

-- what an answer other than a graded specification says of it: this is its first place whose sense isn't allowed, and
-- the sense that it has; or there is no memory for a copy, and it is graded
abbrev pub IsErrorOf : Specification → GradeError → Type 0
IsErrorOf s (Fault fault) = IsFirstWrong s fault.place fault.found
IsErrorOf s Memory = IsGraded s
