pub mod Answers
pub mod Blank
pub mod KeptFiles
pub mod KindsOf
pub mod Pieces
pub mod Places
pub mod Table
pub mod Taken
