pub mod Sheet
pub mod Theorems
pub mod Samples
