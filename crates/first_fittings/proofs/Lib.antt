pub mod Places
pub mod Turns
pub mod Zeros
pub mod Writing
