pub mod NothingPlayed
pub mod SingleCalls
pub mod Stretch
pub mod Stretches
