pub mod Exact
pub mod Loose
pub mod OneValue
pub mod Revising
pub mod Tight
pub mod Views
pub mod Widths
pub mod inside
