pub mod Packed
pub mod Distinct
pub mod Directory
pub mod LookUp
pub mod Keys
pub mod Theorems
pub mod Samples
