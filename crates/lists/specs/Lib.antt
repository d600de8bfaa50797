pub mod Put
pub mod Search
pub mod Shift
