pub mod CallsAreRow
pub mod OneMore
