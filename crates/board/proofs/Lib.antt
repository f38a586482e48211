pub mod Fills
pub mod Limits
pub mod NewBoard
pub mod Sends
