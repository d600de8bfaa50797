pub mod Distinct
pub mod Turns
pub mod Whole
