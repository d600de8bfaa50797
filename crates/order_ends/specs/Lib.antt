pub mod Endings
pub mod EndingsSample
pub mod Plays
pub mod TurningDay
pub mod Waiting
pub mod WaitingSample
