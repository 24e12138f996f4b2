pub mod Levels
pub mod Log
pub mod Marks
pub mod Places
pub mod Pools
