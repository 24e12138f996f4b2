pub mod Makeable
pub mod Shaped
