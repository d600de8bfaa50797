pub mod Lots
pub mod Noted
pub mod Returned
