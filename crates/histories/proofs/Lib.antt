pub mod OnCard
pub mod Reached
pub mod Pasts
pub mod Histories
pub mod Making
pub mod Recording
pub mod Turns
