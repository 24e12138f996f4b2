mod WrongPlaces
pub mod GradedSteps
pub mod MovedExpressions
pub mod MovedProperties
pub mod Movements
pub mod Moves
pub mod Revisable
