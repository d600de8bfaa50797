pub mod ByKind
pub mod Notices
