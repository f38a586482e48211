pub mod Calls
pub mod Cards
