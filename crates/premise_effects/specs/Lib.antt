pub mod Agreements
pub mod ByKind
