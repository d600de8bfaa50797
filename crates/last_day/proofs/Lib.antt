pub mod LastDay
