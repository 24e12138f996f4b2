-- Definitions that only contracts within the crate cite.
pub mod Fits
pub mod Items
