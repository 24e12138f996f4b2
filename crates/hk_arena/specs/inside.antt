pub mod LayerWrites
pub mod OneRow
pub mod Openings
pub mod Writes
pub mod Zeros
