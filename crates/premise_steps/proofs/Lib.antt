pub mod Answered
pub mod CreateRetire
pub mod Decided
pub mod Evaluating
pub mod Refusing
