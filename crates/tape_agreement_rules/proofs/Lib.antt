pub mod Lists
pub mod Own
pub mod Cuts
pub mod Answers
pub mod Books
pub mod Samples
