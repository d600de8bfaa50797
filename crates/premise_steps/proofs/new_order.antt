pub mod ByAnswer
pub mod Ordered
