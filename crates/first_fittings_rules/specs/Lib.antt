pub mod Layout
pub mod Answers
pub mod Conversions
pub mod ThereAndBack
pub mod Sample
