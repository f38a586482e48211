pub mod Layered
pub mod Shown
