pub mod ByDefinition
pub mod Calls
pub mod Endings
pub mod EndingsSample
pub mod Ticks
pub mod TurningDay
pub mod Waiting
pub mod WaitingSample
