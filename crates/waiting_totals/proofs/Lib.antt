pub mod Waiting
pub mod WaitingSample
