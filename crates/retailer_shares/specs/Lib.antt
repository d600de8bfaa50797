pub mod Shares
pub mod SharesSample
