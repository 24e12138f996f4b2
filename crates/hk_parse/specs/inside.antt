-- Definitions that only contracts within the crate cite.
pub mod Headers
pub mod LineParts
pub mod Stages
pub mod StepReads
