pub mod Before
pub mod Moves
pub mod PutIn
pub mod TakenOut
pub mod Tidy
