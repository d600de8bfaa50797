pub mod ByAnswer
