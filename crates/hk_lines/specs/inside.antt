-- Definitions that only contracts within the crate cite.
pub mod Capped
pub mod Pieces
pub mod Ranges
