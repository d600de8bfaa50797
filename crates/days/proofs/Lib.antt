pub mod LastInWindow
pub mod Laws
pub mod Pieces
