pub mod Samples
pub mod Shuffled
