pub mod FirstRows
pub mod OneRecord
