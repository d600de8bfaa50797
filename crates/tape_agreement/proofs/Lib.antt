pub mod Readings
pub mod Records
pub mod Cursors
pub mod Parts
pub mod Nearest
pub mod UpTo
