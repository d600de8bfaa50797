pub mod PassTurns
pub mod Sent
pub mod Then
