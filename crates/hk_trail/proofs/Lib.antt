pub mod Levelling
pub mod Marking
pub mod Undoing
pub mod Zipping
