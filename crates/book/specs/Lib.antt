pub mod Totals
pub mod Book
pub mod Calls
pub mod Laws
pub mod Promise
pub mod CallsInRow
