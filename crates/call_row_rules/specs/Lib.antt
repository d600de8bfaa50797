pub mod CallsAreRow
pub mod CallsMade
