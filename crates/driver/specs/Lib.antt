pub mod Driven
pub mod Status
pub mod Steps
