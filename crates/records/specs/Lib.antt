pub mod Kinds
pub mod Laws
pub mod Layout
pub mod LongRetailers
pub mod Notices
pub mod Records
pub mod Widths
