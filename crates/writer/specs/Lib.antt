pub mod Source
pub mod Jobs
pub mod Blocks
pub mod Put
pub mod Laws
pub mod Passes
pub mod Empty
