pub mod RowBytes
pub mod Lines
pub mod Output
