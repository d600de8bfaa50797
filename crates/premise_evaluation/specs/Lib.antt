pub mod Contenders
pub mod Evaluable
pub mod Ousting
