pub mod AsManyAsFindRoom
pub mod NothingPlayed
pub mod SingleCalls
pub mod Stretches
pub mod Whole
