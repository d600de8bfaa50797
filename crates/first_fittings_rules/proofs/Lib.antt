pub mod Turned
pub mod Tapes
pub mod Ways
pub mod Answered
pub mod ThereAndBack
pub mod LosesNothing
pub mod Sample
