pub mod Access
pub mod Switches
pub mod Raw
pub mod Meant
