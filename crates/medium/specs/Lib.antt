pub mod Limits
pub mod Meaning
pub mod Switches
pub mod Faults
pub mod Wear
pub mod Jobs
