pub mod Closing
pub mod Filed
