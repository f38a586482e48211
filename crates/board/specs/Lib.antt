pub mod Sides
pub mod Held
pub mod Sent
pub mod Cycle
pub mod Made
