pub mod Listed
pub mod Telling
pub mod Texts
