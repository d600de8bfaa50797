pub mod EitherWidth
pub mod MadeAsOfTwo
pub mod MadeWithEither
pub mod Outcomes
pub mod WidthSample
pub mod WidthTells
pub mod WindowOfTwo
pub mod WindowSample
