pub mod FaultLaws
pub mod SlotLaws
pub mod HostLaws
pub mod InputLaws
pub mod MemoryLaws
