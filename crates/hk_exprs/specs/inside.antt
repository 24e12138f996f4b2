-- Definitions that only contracts within the crate cite.
pub mod Machines
pub mod Making
pub mod Standing
