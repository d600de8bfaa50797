pub mod ByAnswer
pub mod Changed
