pub mod Puts
