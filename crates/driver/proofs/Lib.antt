pub mod Kept
pub mod StatusBytes
pub mod Polls
pub mod Runs
pub mod Jobs
pub mod Fills
