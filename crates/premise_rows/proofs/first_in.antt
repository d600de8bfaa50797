pub mod InWay
pub mod Table
