pub mod Inputs
pub mod Limits
pub mod Runs
pub mod System
pub mod Texts
pub mod inside
