pub mod Output
pub mod Stretches
pub mod Lengths
pub mod TapeIsCalls
