pub mod EitherWidth
pub mod Outcomes
pub mod WidthSample
pub mod WindowOfTwo
pub mod WindowSample
