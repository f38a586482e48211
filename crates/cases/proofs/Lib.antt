pub mod Puts
pub mod Pairs
