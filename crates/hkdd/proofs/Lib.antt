pub mod Clauses
pub mod Endings
pub mod Pieces
pub mod Replies
pub mod SystemLaws
pub mod Takings
pub mod Words
