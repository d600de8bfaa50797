pub mod ByStatus
pub mod Waiting
