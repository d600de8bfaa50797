pub mod Codes
pub mod Outboxes
pub mod Telling
