pub mod State
pub mod Lane
pub mod Cycles
