pub mod Eight
pub mod Places
pub mod Room
pub mod Shift
