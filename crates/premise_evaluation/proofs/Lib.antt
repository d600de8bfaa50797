pub mod Ousted
pub mod PlaceTests
pub mod SwitchKept
