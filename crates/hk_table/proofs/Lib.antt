pub mod KeptValues
pub mod Members
pub mod Openings
pub mod RowLists
pub mod RowSets
pub mod Steps
pub mod Supported
pub mod ValueSets
