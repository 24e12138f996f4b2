pub mod Revised
pub mod Narrowed
