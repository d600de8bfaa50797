pub mod Days
pub mod Laws
pub mod Pieces
pub mod Window
