pub mod Courses
pub mod Left
pub mod LineLengths
pub mod Lines
pub mod Ready
pub mod Stretches
pub mod TapeIsCalls
