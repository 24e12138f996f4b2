pub mod GradeErrors
