pub mod Cases
pub mod Sums
pub mod Spare
pub mod Samples
