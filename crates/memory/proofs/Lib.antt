pub mod Parts
pub mod Filling
pub mod Switched
pub mod NewCard
