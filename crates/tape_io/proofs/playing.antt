pub mod First
pub mod Stretches
